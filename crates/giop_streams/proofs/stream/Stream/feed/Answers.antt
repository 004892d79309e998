use Rattle.std.proofs.Common.{◌≡◌, ◌++◌, ◌∙◌, ap, List, ℕ, arith}
use Rattle.std.proofs.lemmas.List.{length-append}
use Rattle.giop_streams.proofs.Staying.{follows_more}
use Rattle.giop_streams.proofs.stream.Stream.feed.Goals as goal

pub invariant_of-self-2 : goal.invariant_of-self-2
invariant_of-self-2 c =
    let inside = c.self.inside in
    let old : List ℕ = inside.buffer.octets in
    let joined : c.append.new.self.octets ≡ old ++ c.args.piece.now = c.append.ensures.octets ∙ ap (λ (x : List ℕ). x ++ c.args.piece.now) c.in_ok-grow.ensures.items.0 in
    rw joined
    (omega (arith, length-append old c.args.piece.now, c.self.invariant.0), c.self.invariant.1, follows_more inside.versions.now inside.start old c.args.piece.now inside.header (omega (arith, c.self.invariant.0)) c.self.invariant.2, c.in_ok-grow.ensures.items.1, rw c.append.ensures.memory c.in_ok-grow.ensures.beside)
