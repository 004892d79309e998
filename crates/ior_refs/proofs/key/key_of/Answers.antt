use Rattle.std.proofs.Common.{rules, ◌≡◌, ◌-◌, length, length-drop, take, drop, arith, IsTrue, subst}
use Rattle.std.specs.Prelude.{slice_index}
use Rattle.std.proofs.lemmas.List.{take_all}
use Rattle.ior_refs.specs.Key.{AreNumbers, is_kind}
use Rattle.ior_refs.proofs.Keys.{key_is}
use Rattle.ior_refs.proofs.key.key_of.Goals as goal

pub returns-clause-found : goal.returns-clause-found
returns-clause-found c =
    let octets = c.args.octets.now in
    let size : length octets ≡ 32 = search rules in
    let o : slice_index octets 0 ≡ 79 = search rules in
    let t : slice_index octets 1 ≡ 84 = search rules in
    let s : slice_index octets 2 ≡ 83 = search rules in
    let kind : IsTrue (is_kind (slice_index octets 3)) = search rules in
    let all : take (length octets - 4) (drop 4 octets) ≡ drop 4 octets = take_all (length octets - 4) (drop 4 octets) (omega (arith, length-drop 4 octets)) in
    let spelled = rw all at c.key_in.ensures.octets in
    let key = rw all at c.key_in.ensures.key in
    let numbers = subst AreNumbers key c.key_in.ensures.numbers in
    rw key (record { octets = key_is octets size spelled o t s; numbers = numbers; kind = kind })
