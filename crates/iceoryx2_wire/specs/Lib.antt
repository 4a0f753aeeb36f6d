-- the words of the clauses, and the types that they name
pub use Rattle.iox_types.specs.Compatibility
pub use Rattle.iox_types.specs.Details
pub use Rattle.iox_types.specs.Identifiers
pub use Rattle.iox_types.specs.Layouts
pub use Rattle.iox_types.specs.Places
pub use Rattle.iox_types.specs.PortIds
pub use Rattle.iox_names.specs.Names as BoundedNames
pub use Rattle.iox_names.specs.Pairs
pub use Rattle.iox_names.specs.ServiceNames
pub use Rattle.iox_names.specs.Texts
pub use Rattle.iox_attributes.specs.Sets
pub use Rattle.iox_attributes.specs.Verifiers
pub use Rattle.iox_attributes.specs.Visits
pub use Rattle.iox_attributes.specs.declared.verification_error.AttributeVerificationError
pub use Rattle.iox_model.specs.Commands
pub use Rattle.iox_model.specs.Peers
pub use Rattle.iox_model.specs.Runs
pub use Rattle.iox_model.specs.Services as Machine
pub use Rattle.iox_model.specs.States
pub use Rattle.iox_model.specs.declared.backpressure.BackpressureAction
pub use Rattle.iox_model.specs.declared.command.Command
pub use Rattle.iox_model.specs.declared.kind.Role
pub use Rattle.iox_model.specs.declared.reply.Refusal
pub use Rattle.iox_model.specs.declared.reply.Reply
pub use Rattle.iox_members.specs.Registering
pub use Rattle.iox_members.specs.Registers
pub use Rattle.iox_members.specs.Steps
pub use Rattle.iox_service_laws.specs.HandlerWords
pub use Rattle.iox_service_laws.specs.Settings
pub use Rattle.iox_service_laws.specs.Listings
pub use Rattle.iox_service_laws.specs.Shapes
pub use Rattle.iox_openers.specs.Causes
pub use Rattle.iox_openers.specs.Openers
pub use Rattle.iox_service_laws.specs.PortMemory
pub use Rattle.iox_service_laws.specs.Given
pub use Rattle.iox_service_laws.specs.Memory
pub use Rattle.iox_service_laws.specs.Served
pub use Rattle.iox_service_laws.specs.Shown
pub use Rattle.iox_service_laws.specs.Messages
pub use Rattle.iox_service_laws.specs.Limits
pub use Rattle.iox_service_laws.specs.Gone
pub use Rattle.iox_service_laws.specs.Asked
pub use Rattle.iox_openers.specs.declared.message_types.MessageTypes
pub use Rattle.iox_openers.specs.declared.service_description.ServiceDescription
-- what the laws of a service cite
pub use Rattle.iox_types.specs.declared.identifiers.system_id.UniqueSystemId
pub use Rattle.iox_model.specs.Handles
pub use Rattle.iox_model.specs.Joins
pub use Rattle.iox_model.specs.Loans
pub use Rattle.iox_model.specs.Maps
pub use Rattle.iox_model.specs.Messages as OnWays
pub use Rattle.iox_model.specs.Names
pub use Rattle.iox_model.specs.Responses
pub use Rattle.iox_model.specs.Settings as OfMachine
pub use Rattle.iox_model.specs.Weaves
pub use Rattle.iox_model.specs.WholeCalls
pub use Rattle.iox_model.specs.declared.call.Call
pub use Rattle.iox_model.specs.declared.command.PortCommand
pub use Rattle.iox_model.specs.declared.kind.Kind
pub use Rattle.iox_model.specs.declared.way.RequestState
pub use Rattle.iox_model.specs.declared.way.Way
pub use Rattle.iox_service_laws.specs.Histories
pub use Rattle.iox_service_laws.specs.Deliveries
pub use Rattle.iox_service_laws.specs.Holdings
pub use Rattle.iox_service_laws.specs.Lists
pub use Rattle.iox_service_laws.specs.Orders
pub use Rattle.iox_service_laws.specs.Origins
pub use Rattle.iox_service_laws.specs.Resting
pub use Rattle.iox_service_laws.specs.Traces
pub use Rattle.iox_service_laws.specs.Finding
pub use Rattle.iox_service_laws.specs.Cleaning
pub use Rattle.iox_service_laws.specs.Closing
pub use Rattle.iox_service_laws.specs.ListingLaws
pub use Rattle.iox_service_laws.specs.Refusing
pub use Rattle.iox_service_laws.specs.Ledgers
pub use Rattle.iox_service_laws.specs.OrderLaws
-- for types of callers: values as words, words in parts, or of values that pass a test, and the
-- words of std's types
pub use Rattle.iox_words.specs.WordLists
pub use Rattle.iox_words.specs.WordParts
pub use Rattle.iox_words.specs.WordLaws
pub use Rattle.iox_words.specs.WhereLaws
pub use Rattle.iox_words.specs.Numbers
pub use Rattle.iox_words.specs.NumberLaws
pub use Rattle.iox_words.specs.SignedLaws
pub use Rattle.iox_words.specs.PlainLaws
pub use Rattle.iox_words.specs.declared.word_list.Words
pub use Rattle.iox_words.specs.declared.zero_copy_send.ZeroCopySend
-- in reading order: a service with its description, its own messages, and its commands
pub mod Services
pub mod OwnTypes
pub mod Serving
