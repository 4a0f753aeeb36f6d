use Rattle.iox_wire_stands.proofs.EndsKept.{ends_add_one_entry, ends_keep_names, ends_keep_pools}
use Rattle.iox_wire_stands.proofs.ends_keep_names.Goals as goal

pub returns-clause-entries : goal.returns-clause-entries
returns-clause-entries c = ends_add_one_entry

pub returns-clause-names : goal.returns-clause-names
returns-clause-names c = ends_keep_names

pub returns-clause-pools : goal.returns-clause-pools
returns-clause-pools c = ends_keep_pools
