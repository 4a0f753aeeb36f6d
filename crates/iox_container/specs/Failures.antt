-- What a failure of the set of indices is called at a container, and the texts of a container's
-- errors.
use Rattle.std.specs.Prelude.{ℕ, List, codes}
use Rattle.iox_sets.specs.declared.mpmc.unique_index_set_enums.UniqueIndexSetAcquireFailure.{UniqueIndexSetAcquireFailure}
use Rattle.iox_sets.specs.declared.mpmc.unique_index_set_enums.UniqueIndexSetAcquireFailure.TheVariants.{OutOfIndices, IsLocked}
use Rattle.iox_container.specs.declared.mpmc.container.failures.ContainerAddFailure.{ContainerAddFailure}
use Rattle.iox_container.specs.declared.mpmc.container.failures.ContainerAddFailure.TheVariants as add
use Rattle.iox_container.specs.declared.mpmc.container.failures.ContainerRemoveError.{ContainerRemoveError}
use Rattle.iox_container.specs.declared.mpmc.container.failures.ContainerRemoveError.TheVariants.{ContainerHandleNotOwnedByContainer}

-- what a failure of the set of indices is called at a container
abbrev pub failure_of : UniqueIndexSetAcquireFailure → ContainerAddFailure
failure_of OutOfIndices = add.OutOfSpace
failure_of IsLocked = add.IsLocked

-- the text by which a failure to add is shown
abbrev pub add_failure_text : ContainerAddFailure → List ℕ
add_failure_text add.OutOfSpace = codes "ContainerAddFailure::OutOfSpace"
add_failure_text add.IsLocked = codes "ContainerAddFailure::IsLocked"

-- the text by which a failure to remove is shown
abbrev pub remove_error_text : ContainerRemoveError → List ℕ
remove_error_text ContainerHandleNotOwnedByContainer = codes "ContainerRemoveError::ContainerHandleNotOwnedByContainer"
