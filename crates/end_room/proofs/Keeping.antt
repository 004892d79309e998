-- Names that stay, and one that is dropped.
use Rattle.std.proofs.Common.{◌≡◌, ◌≢◌, ◌⊎◌, ◌∙◌, ap, refl, sym, subst, inl, inr, ℕ, Bool, true, false, true≢false, List, Option, Some, None}
use Rattle.std.specs.Str.{bytes_eq}
use Rattle.std.proofs.lemmas.Slice.Eq.{bytes_eq-Decides}
use Rattle.resource_end.specs.End.{End, state_named}
use Rattle.resource_end.specs.States.{is_unfinished}
use Rattle.end_room.specs.Own.{IsDropped, Keeps, Names, named}
use Rattle.end_room.specs.declared.ends.Enlisted.{Enlisted}

pub stay : (e : End) (names : Names) → Keeps e names names
stay e names tid = inl refl

pub stay_so : (e : End) (before after : Names) → after ≡ before → Keeps e before after
stay_so e before after same tid = inl (ap (named tid) same)

dropped_at : (e : End) (before after : Option Enlisted) (r : Enlisted) → before ≡ Some r → is_unfinished (state_named r.key e) ≡ false
    → after ≡ None → IsDropped e before after
dropped_at e before after r found over gone = subst (λ b. IsDropped e b after) (sym found) (over, gone)

other_or_it : (e : End) (before after : Names) (tid other : List ℕ) (r : Enlisted) (b : Bool) → bytes_eq other tid ≡ b
    → named tid before ≡ Some r → is_unfinished (state_named r.key e) ≡ false → named tid after ≡ None
    → ((x : List ℕ) → x ≢ tid → named x after ≡ named x before)
    → (named other after ≡ named other before) ⊎ IsDropped e (named other before) (named other after)
other_or_it e before after tid other r true is found over gone others =
    let same = (bytes_eq-Decides other tid).0 is in
    inr (subst (λ t. IsDropped e (named t before) (named t after)) (sym same)
    (dropped_at e (named tid before) (named tid after) r found over gone))
other_or_it e before after tid other r false is found over gone others =
    inl (others other (λ same. true≢false (sym ((bytes_eq-Decides other tid).1 same) ∙ is)))

-- the name of one that is over is dropped
pub dropped : (e : End) (before after : Names) (tid : List ℕ) (r : Enlisted) → named tid before ≡ Some r
    → is_unfinished (state_named r.key e) ≡ false → named tid after ≡ None
    → ((x : List ℕ) → x ≢ tid → named x after ≡ named x before) → Keeps e before after
dropped e before after tid r found over gone others other =
    other_or_it e before after tid other r (bytes_eq other tid) refl found over gone others
