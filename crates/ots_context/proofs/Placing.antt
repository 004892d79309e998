-- A tail that is written, and one that isn't.
use Rattle.std.proofs.Common.{◌≡◌, ◌≤◌, ◌⊎◌, inl, inr, Bool, true, false, cond, ltb, Some, None, ◌++◌, length, Ok, Err, refl, sym, ap, subst}
use Rattle.std.proofs.lemmas.Bool.{le-ltb}
use Rattle.cdr_values.specs.declared.fault.CdrFault.{CdrFault}
use Rattle.cdr_values.specs.declared.fault.CdrFault.TheVariants as cdr
use Rattle.cdr_values.specs.Writing.{Writing, no_room, place_of, with_octets}
use Rattle.ots_context.specs.declared.context.AnyTail.{AnyTail}
use Rattle.ots_context.specs.declared.context.Context.{Context}
use Rattle.ots_context.specs.declared.fault.ContextFault.TheVariants.{TailPlace}
use Rattle.ots_context.specs.Fault.{Fails, fault_of}
use Rattle.ots_context.specs.Tail.{can_stand, octets_of_tail}
use Rattle.ots_context.specs.Writing.{behind_parents, with_context, with_tail}

-- there is no room for it
refused_if : (w : Writing) (tail : AnyTail) (fault : CdrFault) (b : Bool) → ltb 65536 (length (w.octets ++ octets_of_tail (place_of w) tail)) ≡ b
    → cond b (Some (cdr.TooLong (place_of w) (length (w.octets ++ octets_of_tail (place_of w) tail)))) None ≡ Some fault → Fails (fault_of fault) (with_tail w tail)
unfolding with_tail
refused_if w tail fault true e h =
    let is : cdr.TooLong (place_of w) (length (w.octets ++ octets_of_tail (place_of w) tail)) ≡ fault = cc in
    subst (λ (f : CdrFault). Fails (fault_of f) (with_tail w tail)) is (rw e refl)
refused_if w tail fault false e h = absurd cc

pub refused : (w : Writing) (tail : AnyTail) (fault : CdrFault) → (fault ≡ cdr.Memory) ⊎ (no_room w (octets_of_tail (place_of w) tail) ≡ Some fault) → Fails (fault_of fault) (with_tail w tail)
refused w tail fault (inl memory) = subst (λ (f : CdrFault). Fails (fault_of f) (with_tail w tail)) (sym memory) tt
refused w tail fault (inr none) = refused_if w tail fault (ltb 65536 (length (w.octets ++ octets_of_tail (place_of w) tail))) refl none

-- there is room for it
room_if : (b : Bool) (x : CdrFault) → cond b (Some x) None ≡ None → b ≡ false
room_if true x e = absurd cc
room_if false x e = refl

pub placed : (w new : Writing) (tail : AnyTail) → new ≡ with_octets w (octets_of_tail (place_of w) tail) → no_room w (octets_of_tail (place_of w) tail) ≡ None → can_stand (place_of w) tail ≡ true → with_tail w tail ≡ Ok new.octets
unfolding with_tail
placed w new tail is room stands =
    let n = length (w.octets ++ octets_of_tail (place_of w) tail) in
    rw (room_if (ltb 65536 n) (cdr.TooLong (place_of w) n) room, stands) (ap (λ (x : Writing). Ok x.octets) (sym is))

pub misplaced : (w : Writing) (tail : AnyTail) → no_room w (octets_of_tail (place_of w) tail) ≡ None → can_stand (place_of w) tail ≡ false → with_tail w tail ≡ Err TailPlace
unfolding with_tail
misplaced w tail room stands =
    let n = length (w.octets ++ octets_of_tail (place_of w) tail) in
    rw (room_if (ltb 65536 n) (cdr.TooLong (place_of w) n) room, stands) refl

-- where there are few parents, what is written is the tail behind the rest
pub few_parents : (w : Writing) (c : Context) → length c.parents ≤ 16 → with_context w c ≡ with_tail (behind_parents w c) c.tail
unfolding with_context
few_parents w c few = rw (le-ltb 16 (length c.parents) few) refl
