use Rattle.std.proofs.Common.{◌≡◌, ◌≤◌, drop, length, ap, subst, arith}
use Rattle.std.proofs.lemmas.List.{length-drop}
use Rattle.giop_streams.specs.Held.{Held, IsBounded}
use Rattle.giop_streams.specs.Limits.{partial_limit}
use Rattle.giop_streams.proofs.Kept.{partial_is_short}
use Rattle.giop_streams.proofs.stream.Stream.kept.Goals as goal

pub returns-clause-bounded : goal.returns-clause-bounded
returns-clause-bounded c =
    let inside = c.self.inside in
    let size = length-drop inside.start inside.buffer.octets in
    subst IsBounded c.self.view_is (record {
      unfinished_are = c.self.invariant.1;
      held = omega (arith, size);
      taken = omega (arith, size, c.self.invariant.0);
      beside = c.self.invariant.4.few;
    })

pub returns-clause-partial : goal.returns-clause-partial
returns-clause-partial c short =
    let inside = c.self.inside in
    let rest : length c.args.self.now.rest ≤ partial_limit = partial_is_short c.headers_are_read_exactly.ensures c.args.self.now.versions c.args.self.now.rest short in
    let view : length (drop inside.start inside.buffer.octets) ≡ length c.args.self.now.rest = ap (λ (h : Held). length h.rest) c.self.view_is in
    omega (arith, rest, view, length-drop inside.start inside.buffer.octets, c.self.invariant.0)
