-- In allowed lines a registration has one transaction, a transaction one family, and a family one decider.
use Rattle.std.proofs.Common.{◌≡◌, ℕ, ◌⊎◌, inl, inr, List, [], ◌∷◌, refl, sym, ◌∙◌, subst}
use Rattle.ots_model.specs.declared.line.Line.{Line}
use Rattle.ots_model.specs.declared.line.Line.TheVariants as lines
use Rattle.ots_model.specs.Safe as safe
use Rattle.ots_model.specs.Safe.{Stands, IsRegistered, IsImported, IsFamily, IsOf, DecidesAlone, IsDecidedBy, IsUnder}
use Rattle.ots_model.specs.SafeByLine.{IsNew, CanRegister, IsAllowed, AreAllowed}
use Rattle.ots_model.proofs.SafeNewest.{Makes}

-- a line that makes a transaction was allowed where that is new
new_with : (line : Line) (h : List Line) (t : List ℕ) → Makes t line → IsAllowed line h → IsNew t h
new_with (lines.Top u node) h t e a = subst (λ (x : List ℕ). IsNew x h) e a
new_with (lines.Imp u s node) h t e a = subst (λ (x : List ℕ). IsNew x h) e a
new_with (lines.Sub u parent) h t e a = subst (λ (x : List ℕ). IsNew x h) e a
new_with _ h t e a = absurd e

-- and where no line has made it
not_made : (line : Line) (h : List Line) (t : List ℕ) → Makes t line → IsNew t h → Stands line h → ⊥
not_made (lines.Top u node) h t e new s = new.no_top (node, subst (λ (x : List ℕ). Stands (lines.Top x node) h) e s)
not_made (lines.Imp u f node) h t e new s = new.no_import f (node, subst (λ (x : List ℕ). Stands (lines.Imp x f node) h) e s)
not_made (lines.Sub u parent) h t e new s = new.no_sub parent (subst (λ (x : List ℕ). Stands (lines.Sub x parent) h) e s)
not_made _ h t e new s = absurd e

-- so one line makes it
made_once : (h : List Line) (t : List ℕ) (a b : Line) → AreAllowed h → Makes t a → Makes t b → Stands a h → Stands b h → a ≡ b
made_once [] t a b allowed makes_a makes_b s r = absurd s
made_once (x ∷ h) t a b allowed makes_a makes_b (inl e) (inl f) = sym e ∙ f
made_once (x ∷ h) t a b allowed makes_a makes_b (inl e) (inr r) =
    absurd (not_made b h t makes_b (new_with x h t (subst (Makes t) (sym e) makes_a) allowed.0) r)
made_once (x ∷ h) t a b allowed makes_a makes_b (inr s) (inl f) =
    absurd (not_made a h t makes_a (new_with x h t (subst (Makes t) (sym f) makes_b) allowed.0) s)
made_once (x ∷ h) t a b allowed makes_a makes_b (inr s) (inr r) = made_once h t a b allowed.1 makes_a makes_b s r

one_parent : (h : List Line) (t p q : List ℕ) → AreAllowed h → Stands (lines.Sub t p) h → Stands (lines.Sub t q) h → p ≡ q
one_parent h t p q a s r = let e = made_once h t (lines.Sub t p) (lines.Sub t q) a refl refl s r in cc

one_superior : (h : List Line) (f t u : List ℕ) → AreAllowed h → IsImported f t h → IsImported f u h → t ≡ u
one_superior h f t u a (n, s) (m, r) = let e = made_once h f (lines.Imp f t n) (lines.Imp f u m) a refl refl s r in cc

family_or_sub : (h : List Line) (t p : List ℕ) → AreAllowed h → IsFamily t h → Stands (lines.Sub t p) h → ⊥
family_or_sub h t p a (inl (n, s)) r = let e = made_once h t (lines.Top t n) (lines.Sub t p) a refl refl s r in absurd (cc)
family_or_sub h t p a (inr (f, (n, s))) r = let e = made_once h t (lines.Imp t f n) (lines.Sub t p) a refl refl s r in absurd (cc)

pub one_transaction : (h : List Line) (g t u : List ℕ) → AreAllowed h → IsRegistered g t h → IsRegistered g u h → t ≡ u
one_transaction [] g t u a (n, s) (m, r) = absurd s
one_transaction (x ∷ h) g t u a (n, inl e) (m, inl f) = cc
one_transaction (x ∷ h) g t u a (n, inl e) (m, inr r) =
    let can : CanRegister g t h = subst (λ (y : Line). IsAllowed y h) e a.0 in
    sym (can.of_one u (m, r))
one_transaction (x ∷ h) g t u a (n, inr s) (m, inl f) =
    let can : CanRegister g u h = subst (λ (y : Line). IsAllowed y h) f a.0 in
    can.of_one t (n, s)
one_transaction (x ∷ h) g t u a (n, inr s) (m, inr r) = one_transaction h g t u a.1 (n, s) (m, r)

-- how a transaction is of a family
of_by : (h : List Line) (f t : List ℕ) → IsOf h f t → ((f ≡ t) × IsFamily t h) ⊎ ((p : List ℕ) × Stands (lines.Sub t p) h × IsOf h f p)
of_by h f _ (safe.IsOf.own family) = inl (refl, family)
of_by h f _ (safe.IsOf.child t p s of) = inr (p, s, of)

one_family : (h : List Line) (f k t : List ℕ) → AreAllowed h → IsOf h f t → IsOf h k t → f ≡ k
one_family h f k _ a (safe.IsOf.own family) other = elim (of_by h k f other) [
  | inl own ↦ sym own.0
  | inr sub ↦ absurd (family_or_sub h f sub.0 a family sub.1)
]
one_family h f k _ a (safe.IsOf.child t p s of) other = elim (of_by h k t other) [
  | inl own ↦ absurd (family_or_sub h t p a own.1 s)
  | inr sub ↦ one_family h f k p a of (subst (λ (x : List ℕ). IsOf h k x) (one_parent h t sub.0 p a sub.1 s) sub.2)
]

-- how a family is decided
decided_by : (h : List Line) (d f : List ℕ) → IsDecidedBy h d f
    → ((d ≡ f) × DecidesAlone f h) ⊎ (¬ (DecidesAlone f h) × ((t : List ℕ) × (above : List ℕ) × IsImported f t h × IsOf h above t × IsDecidedBy h d above))
decided_by h d _ (safe.alone decides) = inl (refl, decides)
decided_by h d _ (safe.superior f t above waits imported of by) = inr (waits, (t, above, imported, of, by))

one_decider : (h : List Line) (d e f : List ℕ) → AreAllowed h → IsDecidedBy h d f → IsDecidedBy h e f → d ≡ e
one_decider h d e _ a (safe.alone decides) other = elim (decided_by h e d other) [
  | inl alone ↦ sym alone.0
  | inr up ↦ absurd (up.0 decides)
]
one_decider h d e _ a (safe.superior f t above waits imported of by) other = elim (decided_by h e f other) [
  | inl alone ↦ absurd (waits alone.1)
  | inr (_, up) ↦
      let same_superior : up.0 ≡ t = one_superior h f up.0 t a up.2 imported in
      let same_above : up.1 ≡ above = one_family h up.1 above t a (subst (λ (x : List ℕ). IsOf h up.1 x) same_superior up.3) of in
      one_decider h d e above a by (subst (λ (x : List ℕ). IsDecidedBy h e x) same_above up.4)
]

pub under_one_family : (h : List Line) (g f d k e : List ℕ) → AreAllowed h → IsUnder g f d h → IsUnder g k e h → f ≡ k
under_one_family h g f d k e a u v =
    let same = one_transaction h g u.transaction v.transaction a u.registered v.registered in
    one_family h f k v.transaction a (subst (λ (x : List ℕ). IsOf h f x) same u.of_family) v.of_family

pub under_one_decider : (h : List Line) (g f d k e : List ℕ) → AreAllowed h → IsUnder g f d h → IsUnder g k e h → d ≡ e
under_one_decider h g f d k e a u v =
    one_decider h d e k a (subst (λ (x : List ℕ). IsDecidedBy h d x) (under_one_family h g f d k e a u v) u.decided) v.decided
