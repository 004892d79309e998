-- A message that was begun is open, or was ended by one Fragment.
use Rattle.std.proofs.Common.{◌≡◌, ℕ, Bool, true, false, List, [], ◌∷◌, ◌++◌, ◌==◌, refl, sym, ap, ◌∙◌, ◌⊎◌, inl, inr}
use Rattle.std.specs.Prelude.{◌||◌, ◌&&◌, not}
use Rattle.std.specs.List.{list_any}
use Rattle.std.proofs.lemmas.Bool.{and_parts, eqb-true}
use Rattle.giop_frames.specs.Header.{is_fragment}
use Rattle.giop_streams.specs.Stream.{Part, id_of}
use Rattle.giop_streams.specs.SeveralParts.{IsEndedBy, IsEndedOnce, is_first, is_fragment_of, is_last_of, is_open}
use Rattle.giop_streams.proofs.Numbered.{cases_bool}

-- what is true of one is true of some
or_true : (l : Bool) → (l || true) ≡ true
or_true true = refl
or_true false = refl

-- what is ended stays so
closed_on : (a l y : Bool) → (a && not y) ≡ false → (a && not (l || y)) ≡ false
closed_on true true y e = refl
closed_on true false y e = e
closed_on false l y e = refl

closed_by : (a l y : Bool) → l ≡ true → (a && not (l || y)) ≡ false
closed_by true l y e = rw e refl
closed_by false l y e = refl

-- what isn't ended by a part is open as before
open_on : (a l y : Bool) → l ≡ false → (a && not y) ≡ true → (a && not (l || y)) ≡ true
open_on a l y e o = rw e o

closed_any : (a y : Bool) → y ≡ true → (a && not y) ≡ false
closed_any true y e = rw e refl
closed_any false y e = refl

-- among parts there is a last one
any_last : (id : ℕ) (later : List Part) (last : Part) (between : List Part) → is_last_of id last ≡ true → list_any (is_last_of id) (later ++ last ∷ between) ≡ true
any_last id [] last between e = rw e refl
any_last id (q ∷ later) last between e = rw (any_last id later last between e) (or_true (is_last_of id q))

-- nothing is both
not_both : (b : Bool) → b ≡ true → b ≡ false → ⊥
not_both b is isnt = let h : true ≡ false = sym is ∙ isnt in absurd cc

-- the newest part ends the message
alone_here : (first : Part) (older : List Part) (q : Part) (since : List Part) → is_open first since ≡ true → (l : List Part) (p : Part) (b : List Part) → IsEndedBy first older (q ∷ since) l p b → (l ≡ []) × (p ≡ q) × (b ≡ since)
alone_here first older q since stays [] p b h =
    let stand : q ∷ since ≡ p ∷ b = h.stand in
    (refl, cc, cc)
alone_here first older q since stays (x ∷ l) p b h =
    let stand : q ∷ since ≡ x ∷ (l ++ p ∷ b) = h.stand in
    let rest : since ≡ l ++ p ∷ b = cc in
    let some : list_any (is_last_of (id_of first)) since ≡ true = ap (list_any (is_last_of (id_of first))) rest ∙ any_last (id_of first) l p b h.is_last in
    absurd (not_both (is_open first since) stays (closed_any (is_first first) (list_any (is_last_of (id_of first)) since) some))

ends_here : (first : Part) (older : List Part) (q : Part) (since : List Part) → is_last_of (id_of first) q ≡ true → is_open first since ≡ true → IsEndedOnce first older (q ∷ since)
ends_here first older q since last stays =
    let of_message = and_parts (is_fragment_of (id_of first) q) (not q.header.more) last in
    let numbered = and_parts (is_fragment q.header.kind) (id_of q == id_of first) of_message.0 in
    record {
      later = [];
      last = q;
      between = since;
      ended = record {
        stand = refl;
        is_last = last;
        belongs = record { stand = refl; unended = stays; numbered = sym (eqb-true (id_of q) (id_of first) numbered.1) };
      };
      closed = closed_by (is_first first) (is_last_of (id_of first) q) (list_any (is_last_of (id_of first)) since) last;
      alone = λ l p b h. alone_here first older q since stays l p b h;
    }

-- an older part ended it
alone_before : (first : Part) (older : List Part) (q : Part) (since : List Part) (e : IsEndedOnce first older since) (l : List Part) (p : Part) (b : List Part) → IsEndedBy first older (q ∷ since) l p b → (l ≡ q ∷ e.later) × (p ≡ e.last) × (b ≡ e.between)
alone_before first older q since e [] p b h =
    let stand : q ∷ since ≡ p ∷ b = h.stand in
    let rest : b ≡ since = cc in
    absurd (not_both (is_open first since) (ap (is_open first) (sym rest) ∙ h.belongs.unended) e.closed)
alone_before first older q since e (x ∷ l) p b h =
    let stand : q ∷ since ≡ x ∷ (l ++ p ∷ b) = h.stand in
    let rest : since ≡ l ++ p ∷ b = cc in
    let head : x ≡ q = cc in
    let same = e.alone l p b (record { stand = rest; is_last = h.is_last; belongs = h.belongs }) in
    let tail : l ≡ e.later = same.0 in
    (cc, same.1, same.2)

ends_before : (first : Part) (older : List Part) (q : Part) (since : List Part) → IsEndedOnce first older since → IsEndedOnce first older (q ∷ since)
ends_before first older q since e = record {
  later = q ∷ e.later;
  last = e.last;
  between = e.between;
  ended = record { stand = ap (λ (ps : List Part). q ∷ ps) e.ended.stand; is_last = e.ended.is_last; belongs = e.ended.belongs };
  closed = closed_on (is_first first) (is_last_of (id_of first) q) (list_any (is_last_of (id_of first)) since) e.closed;
  alone = λ l p b h. alone_before first older q since e l p b h;
}

-- the message of a first part is open, or one Fragment ended it
pub ended_once : (first : Part) (older since : List Part) → is_first first ≡ true → (is_open first since ≡ true) ⊎ IsEndedOnce first older since
ended_once first older [] begun = inl (rw begun refl)
ended_once first older (q ∷ since) begun =
    elim (ended_once first older since begun) [
      | inl stays ↦ elim (cases_bool (is_last_of (id_of first) q)) [
        | inl last ↦ inr (ends_here first older q since last stays)
        | inr other ↦ inl (open_on (is_first first) (is_last_of (id_of first) q) (list_any (is_last_of (id_of first)) since) other stays)
      ]
      | inr ended ↦ inr (ends_before first older q since ended)
    ]
