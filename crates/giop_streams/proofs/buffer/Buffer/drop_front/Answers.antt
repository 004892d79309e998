use Rattle.std.proofs.Common.{◌≡◌, ◌≤◌, ◌∙◌, ap, drop, length, sym, take, arith}
use Rattle.std.proofs.lemmas.List.{length-take}
use Rattle.giop_streams.specs.Buffered.{Buffered}
use Rattle.giop_streams.proofs.Filled.{moved}
use Rattle.giop_streams.proofs.buffer.Buffer.drop_front.Goals as goal

pub returns-clause-octets : goal.returns-clause-octets
returns-clause-octets c =
    let inside = c.self.inside in
    let taken = c.args.taken in
    let size : length (take inside.count inside.filled.items) ≡ inside.count = omega (arith, length-take inside.count inside.filled.items, c.self.invariant.0) in
    let count : length c.args.self.now.octets ≡ inside.count = ap (λ (b : Buffered). length b.octets) (sym c.self.view_is) ∙ size in
    let within : taken ≤ inside.count = omega (arith, count, c.requires.within) in
    let back : c.split_at_mut-front.result.1.now ≡ drop taken inside.filled.items = c.split_at_mut-front.ensures.back ∙ ap (drop taken) c.deref_mut.ensures.value in
    moved taken inside.count _ inside.filled.items c.copy_from_slice.new.self _ c.split_at_mut-front.result.1.now _ within c.self.invariant.0 (omega (arith, c.self.invariant.0)) c.copy_from_slice.ensures.after back
    ∙ ap (λ (b : Buffered). drop taken b.octets) c.self.view_is
