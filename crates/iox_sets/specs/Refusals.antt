-- Which refusal comes where several apply, and the texts of errors.
use Rattle.std.specs.Prelude.{◌≡◌, ℕ, List, Option, Some, None, codes}
use Rattle.iox_sets.specs.declared.mpmc.robust_unique_index_set.owner_id.OwnerIdNewError.{OwnerIdNewError}
use Rattle.iox_sets.specs.declared.mpmc.robust_unique_index_set.owner_id.OwnerIdNewError.TheVariants.{InvalidValue}
use Rattle.iox_sets.specs.declared.mpmc.unique_index_set_enums.UniqueIndexSetAcquireFailure.{UniqueIndexSetAcquireFailure}
use Rattle.iox_sets.specs.declared.mpmc.unique_index_set_enums.UniqueIndexSetAcquireFailure.TheVariants.{OutOfIndices, IsLocked}
use Rattle.iox_sets.specs.declared.mpmc.unique_index_set_enums.UniqueIndexSetNewError.{UniqueIndexSetNewError}
use Rattle.iox_sets.specs.declared.mpmc.unique_index_set_enums.UniqueIndexSetNewError.TheVariants.{CapacityIsZero, CapacityTooLarge}
use Rattle.iox_sets.specs.declared.mpmc.unique_index_set_enums.UniqueIndexSetNewError.TheVariants.{ExceedsCapacity, WantOfMemory}

-- the error is the first refusal that applies; where none does, it says that there was no memory
abbrev pub IsRefusal : {E : Type 0} → E → Option E → E → Type 0
IsRefusal memory (Some first) error = error ≡ first
IsRefusal memory None error = error ≡ memory

-- the text by which a failure to take an index is shown
abbrev pub acquire_failure_text : UniqueIndexSetAcquireFailure → List ℕ
acquire_failure_text OutOfIndices = codes "UniqueIndexSetAcquireFailure::OutOfIndices"
acquire_failure_text IsLocked = codes "UniqueIndexSetAcquireFailure::IsLocked"

-- the text by which a failure to make a set is shown
abbrev pub new_error_text : UniqueIndexSetNewError → List ℕ
new_error_text CapacityIsZero = codes "UniqueIndexSetNewError::CapacityIsZero"
new_error_text CapacityTooLarge = codes "UniqueIndexSetNewError::CapacityTooLarge"
new_error_text ExceedsCapacity = codes "UniqueIndexSetNewError::ExceedsCapacity"
new_error_text WantOfMemory = codes "UniqueIndexSetNewError::WantOfMemory"

-- the text by which a failure to make an owner's id is shown
abbrev pub owner_id_error_text : OwnerIdNewError → List ℕ
owner_id_error_text InvalidValue = codes "OwnerIdNewError::InvalidValue"
