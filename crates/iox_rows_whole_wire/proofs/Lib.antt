pub mod OpensOnOnes
pub mod OpensOnFour
pub mod OpensOnWide
pub mod OpensOnUnits
pub mod NamesOfOnes
