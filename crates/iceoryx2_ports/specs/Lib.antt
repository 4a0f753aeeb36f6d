-- the words of the clauses, and the types that they name: of the machine
pub use Rattle.iox_model.specs.Commands
pub use Rattle.iox_model.specs.Makings as MachineMakings
pub use Rattle.iox_model.specs.Messages
pub use Rattle.iox_model.specs.WholeCalls
pub use Rattle.iox_model.specs.declared.backpressure.BackpressureAction
pub use Rattle.iox_laws.specs.BackpressureStrategy
pub use Rattle.iox_model.specs.declared.call.Call
pub use Rattle.iox_model.specs.declared.kind.Kind
pub use Rattle.iox_model.specs.declared.kind.Role
pub use Rattle.iox_model.specs.declared.reply.Refusal
pub use Rattle.iox_model.specs.declared.reply.Reply
-- of what elements carry
pub use Rattle.iox_store.specs.Answering
pub use Rattle.iox_store.specs.Stored
-- of hubs
pub use Rattle.iox_tables.specs.HubLoans.Counts
pub use Rattle.iox_tables.specs.HubStates.States
pub use Rattle.iox_hub_laws.specs.Copying
pub use Rattle.iox_hub_laws.specs.Fillings
pub use Rattle.iox_hub_laws.specs.HandlerWords
pub use Rattle.iox_hub_laws.specs.Headers as HubHeaders
pub use Rattle.iox_hub_laws.specs.Hubs
pub use Rattle.iox_hub_laws.specs.Keeping as HubKeeping
pub use Rattle.iox_hub_laws.specs.Lending
pub use Rattle.iox_hub_laws.specs.Making
pub use Rattle.iox_hub_laws.specs.Reads
pub use Rattle.iox_hub_laws.specs.Releases as HubReleases
pub use Rattle.iox_hub_laws.specs.Sending
pub use Rattle.iox_hub_laws.specs.Shapes
pub use Rattle.iox_hub_laws.specs.Receives
pub use Rattle.iox_hub_laws.specs.Sends
pub use Rattle.iox_hub_laws.specs.Waiting
pub use Rattle.iox_hub_laws.specs.Histories as HubHistories
pub use Rattle.iox_hub_laws.specs.Limits as HubLimits
pub use Rattle.iox_hub_laws.specs.Loans as HubLoans
pub use Rattle.iox_hub_laws.specs.Slots as HubSlots
pub use Rattle.iox_hub_laws.specs.Gone as HubGone
pub use Rattle.iox_tables.specs.HubKeeping.Connected as HubConnected
-- of identifiers, and of what a callback is called with
pub use Rattle.iox_types.specs.Identifiers
pub use Rattle.iox_types.specs.PortIds
pub use Rattle.iox_attributes.specs.Visits
pub use Rattle.iox_port_commands.specs.Listings
-- of commands
pub use Rattle.iox_model.specs.declared.command.PortCommand
pub use Rattle.iox_model.specs.declared.command.PortOptions
pub use Rattle.iox_model.specs.declared.reply.PortReply
pub use Rattle.iox_port_commands.specs.declared.elements.Elements
pub use Rattle.iox_port_commands.specs.Asking as CommandsAsked
pub use Rattle.iox_port_commands.specs.Telling as CommandsTold
pub use Rattle.iox_port_commands.specs.Memory as CommandsMemory
pub use Rattle.iox_port_commands.specs.Applying
-- for types of callers: values as words, words in parts, or of values that pass a test, and the
-- words of std's types
pub use Rattle.iox_words.specs.WordLists
pub use Rattle.iox_words.specs.WordParts
pub use Rattle.iox_words.specs.WordLaws
pub use Rattle.iox_words.specs.WhereLaws
pub use Rattle.iox_words.specs.Numbers
pub use Rattle.iox_words.specs.NumberLaws
pub use Rattle.iox_words.specs.SignedLaws
pub use Rattle.iox_words.specs.PlainLaws
pub use Rattle.iox_words.specs.declared.word_list.Words
pub use Rattle.iox_words.specs.declared.zero_copy_send.ZeroCopySend
-- typed calls
pub mod Calls
pub mod Answers
pub mod Headers
pub mod Keeping
pub mod Holding
pub mod Makings
pub mod Loans
pub mod LoanLimits
pub mod Payloads
pub mod Copies
pub mod Arrivals
pub mod Streams
pub mod Reaching
pub mod Responses
pub mod Idling
pub mod Asking
pub mod Opens
pub mod Releases
pub mod Rooms
pub mod Senders
pub mod Overrides
