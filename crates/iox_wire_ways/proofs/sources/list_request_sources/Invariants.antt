use Rattle.std.specs.Prelude.{vec_len}
use Rattle.std.proofs.Common.{◌≡◌, ◌≤◌, ◌<◌, length, vec_capacity}
use Rattle.iox_model.specs.declared.kind.Role.TheVariants.{Client}
use Rattle.iox_wire_receives.specs.declared.source.Source.{Source}
use Rattle.iox_wire_ways.specs.RequestSources.{passed_over, request_source, request_terms}
use Rattle.iox_wire_ways.specs.Visits.{is_other}
use Rattle.iox_wire_ways.proofs.ListLemmas.{made_before}
use Rattle.iox_wire_ways.proofs.sources.list_request_sources.Given as goal

-- the ways from the ports so far
abbrev pub invariant-loop-index : goal.invariant-loop-index
invariant-loop-index l = record {
  sources : l.sources.items ≡ made_before Source l.map (is_other Client (passed_over l.fire_and_forget l.seat.seat.forgot)) (request_source l.map l.server) l.index;
  terms : 0 < length l.sources.items → l.terms ≡ request_terms l.map l.fire_and_forget l.number;
  number : l.terms.number ≡ l.number;
  asks : l.terms.fire_and_forget ≡ l.fire_and_forget;
  few : vec_len l.sources ≤ l.index;
  list : vec_capacity l.sources ≡ vec_capacity l.fn.sources;
  below : l.index ≤ l.index-end;
  size : l.index-end ≡ length l.map.ports.items;
}
