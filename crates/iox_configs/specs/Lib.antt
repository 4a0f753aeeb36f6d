-- where a configuration's files are, the settings before anybody changes them, how many messages
-- ports need
pub mod Paths
pub mod FirstSettings
pub mod Pools
-- what a service was made with
pub mod Services
