use Rattle.std.proofs.Common.{ap, sym, nat_le}
use Rattle.iox_tables.specs.HubMaking.OneByOne.{most_of}
use Rattle.iox_control.specs.Settings.{settings_of}
use Rattle.iox_control_making.specs.Making.{count_in}
use Rattle.iox_control_making.proofs.room.is_full.Goals as goal

pub returns-in-Client : goal.returns-in-Client
returns-in-Client c = ap (λ r. nat_le (most_of (settings_of c.args.settings) r) (count_in c.args.sizes r)) (sym c.in-Client.is)

pub returns-in-Server : goal.returns-in-Server
returns-in-Server c = ap (λ r. nat_le (most_of (settings_of c.args.settings) r) (count_in c.args.sizes r)) (sym c.in-Server.is)
