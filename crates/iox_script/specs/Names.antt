-- The names of commands and of settings.
use Rattle.std.specs.Prelude.{ℕ, List, if◌then◌else◌, codes, bytes_eq, Option, Some, None, Result, Ok, Err}
use Rattle.iox_script.specs.declared.command.Key.{Key}
use Rattle.iox_script.specs.declared.command.Key.TheVariants.{RequestOverflow, ResponseOverflow}
use Rattle.iox_script.specs.declared.command.LineCause.{LineCause}
use Rattle.iox_script.specs.declared.command.LineCause.TheVariants.{BadText}
use Rattle.iox_script.specs.declared.command.Keyword.{Keyword}
use Rattle.iox_script.specs.declared.command.Keyword.TheVariants as keywords

-- the commands by their first words
abbrev pub keyword_of : List ℕ → Option Keyword
keyword_of word =
    if bytes_eq word (codes "set") then Some keywords.Set
    else if bytes_eq word (codes "create") then Some keywords.Create
    else if bytes_eq word (codes "open") then Some keywords.Open
    else if bytes_eq word (codes "client") then Some keywords.Client
    else if bytes_eq word (codes "server") then Some keywords.Server
    else if bytes_eq word (codes "send-copy") then Some keywords.SendCopy
    else if bytes_eq word (codes "receive") then Some keywords.Receive
    else if bytes_eq word (codes "read") then Some keywords.Read
    else None

-- the settings by their names
abbrev pub key_of : List ℕ → Result Key LineCause
key_of word =
    if bytes_eq word (codes "request-overflow") then Ok RequestOverflow
    else if bytes_eq word (codes "response-overflow") then Ok ResponseOverflow
    else Err BadText
