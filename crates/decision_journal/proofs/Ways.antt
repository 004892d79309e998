-- A disk on its way through the calls of an append.
use Rattle.std.proofs.Common.{◌≡◌, inl, inr, ℕ, zero, suc, ◌+◌, ◌≤◌, Bool, true, false, cond, sym, subst, List, [], ◌∷◌, ◌++◌, length, length-append, drop, Option, Some, None, refl, ap, ◌∙◌, arith}
use Rattle.ots_outside.specs.Disk.{DiskState, Moment, IsImage, IsAfterRefusal, EachLeavesOnly, LeavesOnlySince, ReadsImage, Tells, moments, synced, written}
use Rattle.decision_journal.specs.Laws.{IsOnTheWay, appended, cleared, is_letter_due}

-- two calls, one after the other
pub tells_then : (a b c : Option DiskState) (R S : DiskState → DiskState → Type 0) → Tells a b R → Tells b c S → Tells a c (λ s u. (t : DiskState) × R s t × S t u)
tells_then None None None R S x y = tt
tells_then None None (Some u) R S x y = absurd y
tells_then None (Some t) c R S x y = absurd x
tells_then (Some s) None c R S x y = absurd x
tells_then (Some s) (Some t) None R S x y = absurd y
tells_then (Some s) (Some t) (Some u) R S x y = (t, x, y)

-- a relation for another
pub tells_weaker : (a b : Option DiskState) (R S : DiskState → DiskState → Type 0) → ((s t : DiskState) → R s t → S s t) → Tells a b R → Tells a b S
tells_weaker None None R S f x = tt
tells_weaker None (Some t) R S f x = absurd x
tells_weaker (Some s) None R S f x = absurd x
tells_weaker (Some s) (Some t) R S f x = f s t x

-- with what is known of the second
pub tells_reading : (a b : Option DiskState) (R S : DiskState → DiskState → Type 0) → ((s t : DiskState) → IsImage t.present t.reads → R s t → S s t) → ReadsImage b → Tells a b R → Tells a b S
tells_reading None None R S f i x = tt
tells_reading None (Some t) R S f i x = absurd x
tells_reading (Some s) None R S f i x = absurd x
tells_reading (Some s) (Some t) R S f i x = f s t i x

-- a disk that was synced, and then told the same
pub synced_way : (a b c : Option DiskState) → c ≡ b → Tells a b (λ s t. t ≡ synced s) → ReadsImage b → Tells a c (λ s t. IsAfterRefusal s (synced s) t)
synced_way a b c same whole image =
    subst (λ (c : Option DiskState). Tells a c (λ s t. IsAfterRefusal s (synced s) t)) (sym same)
    (tells_reading a b (λ s t. t ≡ synced s) (λ s t. IsAfterRefusal s (synced s) t) (λ s t i e. record { moments = inr (ap moments e); image = i }) image whole)

pub synced_told : (a b c : Option DiskState) → c ≡ b → Tells a b (λ s t. t ≡ synced s) → Tells a c (λ s t. t ≡ synced s)
synced_told a b c same whole = subst (λ (c : Option DiskState). Tells a c (λ s t. t ≡ synced s)) (sym same) whole

-- what a crash leaves on the way to an end, it leaves up to the end
each_dropped : (P : List ℕ → Type 0) (n : ℕ) (more : List Moment) → EachLeavesOnly P more → EachLeavesOnly P (drop n more)
each_dropped P zero more each = each
each_dropped P (suc n) [] each = tt
each_dropped P (suc n) (m ∷ more) each = each_dropped P n more each.1

drop_within : (n : ℕ) (more rest : List Moment) → n ≤ length more → drop n (more ++ rest) ≡ drop n more ++ rest
drop_within zero more rest le = refl
drop_within (suc n) [] rest le = absurd (omega arith)
drop_within (suc n) (m ∷ more) rest le = drop_within n more rest (omega arith)

pub on_the_way : (P : List ℕ → Type 0) (start end now : DiskState) → LeavesOnlySince P start end → IsOnTheWay start end now → LeavesOnlySince P start now
on_the_way P start end now since way = record {
  more = drop way.left since.more;
  moments = way.moments_are ∙ ap (drop way.left) since.moments ∙ drop_within way.left since.more (moments start) (omega (arith, way.within, ap length since.moments, length-append since.more (moments start)));
  at_start = since.at_start;
  later = each_dropped P way.left since.more since.later;
}

-- ---- a write and a sync, and several of them

abbrev pub wrote_synced : ℕ → List ℕ → DiskState → DiskState
wrote_synced place octets s = synced (written place octets s)

module _ (place : ℕ) (octets : List ℕ) where
  pub pair_first : (s t : DiskState) → IsAfterRefusal s (written place octets s) t → IsOnTheWay s (wrote_synced place octets s) t
  pair_first s t h = elim h.moments [
    | inl same ↦ record { left = 2; within = omega arith; moments_are = same }
    | inr same ↦ record { left = 1; within = omega arith; moments_are = same }
  ]

  pub pair_second : (s m t : DiskState) → m ≡ written place octets s → IsAfterRefusal m (synced m) t → IsOnTheWay s (wrote_synced place octets s) t
  pair_second s m t e h = elim h.moments [
    | inl same ↦ record { left = 1; within = omega arith; moments_are = same ∙ ap moments e }
    | inr same ↦ record { left = 0; within = omega arith; moments_are = same ∙ ap (λ (m : DiskState). moments (synced m)) e }
  ]

  pub pair_whole : (s t : DiskState) → t ≡ wrote_synced place octets s → IsOnTheWay s (wrote_synced place octets s) t
  pair_whole s t e = record { left = 0; within = omega arith; moments_are = ap moments e }

  -- on the way to what is written over
  pub way_before : (s m t : DiskState) → IsOnTheWay s m t → IsOnTheWay s (wrote_synced place octets m) t
  way_before s m t way = record { left = suc (suc way.left); within = omega (arith, way.within); moments_are = way.moments_are }

pub way_behind : (s m end t : DiskState) → length (moments s) ≤ length (moments m) → IsOnTheWay m end t → IsOnTheWay s end t
way_behind s m end t longer way = record { left = way.left; within = omega (arith, way.within, longer); moments_are = way.moments_are }

-- an append: on the way to the octets behind the gate, and to the open gate
module _ (gate : ℕ) (behind : List ℕ) where
  abbrev pub Way : DiskState → DiskState → Type 0
  Way s t = IsOnTheWay s (appended gate behind s) t

  pub way_filled : (a b : Option DiskState) → Tells a b (λ s t. IsOnTheWay s (wrote_synced (gate + 1) behind s) t) → Tells a b Way
  way_filled a b h =
      tells_weaker a b (λ s t. IsOnTheWay s (wrote_synced (gate + 1) behind s) t) Way (λ s t h. way_before gate (1 ∷ []) s (wrote_synced (gate + 1) behind s) t h) h

  pub way_opened : (a b c : Option DiskState) → Tells a b (λ s t. t ≡ wrote_synced (gate + 1) behind s) → Tells b c (λ s t. IsOnTheWay s (wrote_synced gate (1 ∷ []) s) t) → Tells a c Way
  way_opened a b c filled h =
      tells_weaker a c _ Way (λ s u h.
      let at : IsOnTheWay (wrote_synced (gate + 1) behind s) (appended gate behind s) u = subst (λ (m : DiskState). IsOnTheWay m (wrote_synced gate (1 ∷ []) m) u) h.1 h.2 in
      way_behind s (wrote_synced (gate + 1) behind s) (appended gate behind s) u (omega arith) at)
      (tells_then a b c (λ s t. t ≡ wrote_synced (gate + 1) behind s) (λ s t. IsOnTheWay s (wrote_synced gate (1 ∷ []) s) t) filled h)

cleared_by_longer : (b : Bool) (s : DiskState) → length (moments s) ≤ length (moments (cond b (synced (written 0 (0 ∷ []) s)) s))
cleared_by_longer true s = omega arith
cleared_by_longer false s = omega arith

pub cleared_longer : (s : DiskState) → length (moments s) ≤ length (moments (cleared s))
cleared_longer s = cleared_by_longer (is_letter_due s.reads) s

pub none_some : (t : DiskState) → None ≡ Some t → ⊥
none_some t e = absurd cc

pub some_same : (t u : DiskState) → Some t ≡ Some u → t ≡ u
some_same t u e = cc
