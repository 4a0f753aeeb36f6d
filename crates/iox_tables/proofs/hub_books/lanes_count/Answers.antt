use Rattle.iox_tables.specs.HubBooks.Counts.{lane_count}
use Rattle.iox_tables.proofs.HubBooks.LaneCounts.{visited_count}
use Rattle.iox_tables.proofs.HubBooks.LaneLists.{lanes_same, lanes_total, visits_same}
use Rattle.iox_tables.proofs.HubBooks.LaneTotals.{lane_changed}
use Rattle.iox_tables.proofs.hub_books.lanes_count.Goals as goal

pub returns-clause-one : goal.returns-clause-one
returns-clause-one c = lane_changed

pub returns-clause-several : goal.returns-clause-several
returns-clause-several c = lanes_total

pub returns-clause-same : goal.returns-clause-same
returns-clause-same c = lanes_same

pub returns-clause-visits : goal.returns-clause-visits
returns-clause-visits c = λ wanted labels lane ports n pool k.
    visits_same wanted labels lane (lane_count pool k) (visited_count pool k) ports n
