use Rattle.std.proofs.Common.{◌≡◌, ℕ, ◌≤◌, List, ◌++◌, length, take, ap, ◌∙◌, arith}
use Rattle.std.specs.Prelude.{replicate}
use Rattle.std.proofs.lemmas.Grind.{common_steps}
use Rattle.std.proofs.lemmas.List.{take-replicate}
use Rattle.cdr_values.specs.Value.{gap, padded}
use Rattle.cdr_values.specs.Writing.{place_of}
use Rattle.cdr_values.specs.Limits.{output_limit}
use Rattle.cdr_values.proofs.Room.{has_room, put_is}
use Rattle.cdr_values.proofs.writer.Writer.put.Goals as goal

pub returns : goal.returns
returns c =
    let old = c.args.self.now in
    let count = c.gap_before-gap.result in
    let few : count ≤ 8 = omega arith in
    let zeros : take count (replicate 8 0) ≡ replicate (gap c.args.n (place_of old)) 0 =
    take-replicate count 8 0 few ∙ ap (λ (k : ℕ). replicate k 0) (c.gap_before-gap.ensures.gap ∙ ap (gap c.args.n) c.place.ensures) in
    let octets : List ℕ = padded c.args.n (place_of old) (c.args.number.now ++ (c.args.items.now ++ c.args.end.now)) in
    let room : length (old.octets ++ octets) ≤ output_limit = grind (arith, common_steps) in
    (put_is _ _ _ _ _ _ _ _ c.self.view_is zeros c.in_ok-append.ensures.ok, has_room old octets room)
