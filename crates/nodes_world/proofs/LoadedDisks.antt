-- What a load leaves on a disk of which all that it reads is synced: its records and the next life.
use Rattle.std.proofs.Common.{◌≡◌, inl, inr, ℕ, ◌+◌, ◌^◌, ◌<◌, ◌≤◌, ◌==◌, ◌||◌, Bool, true, false, nat_lt, List, [], ◌∷◌, ◌++◌, length, Any, refl, sym, ap, subst, ◌∙◌, arith}
use Rattle.std.specs.List.{list_any}
use Rattle.std.proofs.lemmas.Bool.Decides.{nat_tests}
use Rattle.std.proofs.lemmas.List.{ext_get_or}
use Rattle.std.proofs.lemmas.List.Elements.{Contains-append_left, Contains-push_cases}
use Rattle.std.proofs.lemmas.List.Folds.{list_any-append}
use Rattle.ots_outside.specs.Disk.{DiskState, IsImage, Moment}
use Rattle.decision_journal.specs.Journal.{Found, Holds, StandsFor, first_gate, found_in, front}
use Rattle.decision_journal.specs.Laws.{CanAppend, IsSettled}
use Rattle.decision_journal.specs.Layout.{record_octets}
use Rattle.decision_journal.specs.Limits.{area_limit}
use Rattle.decision_journal.specs.Loading.{LoadsAreSafe, loaded, next_life}
use Rattle.decision_journal.specs.State.{need, used}
use Rattle.decision_journal.specs.declared.journal.Standing.{Standing}
use Rattle.decision_journal.specs.declared.record.JournalRecord.{JournalRecord}
use Rattle.nodes_world.specs.AgreementInside.{IsNamedBy, placed}
use Rattle.decision_journal.specs.Growing.{JournalsGrow}
use Rattle.nodes_world.specs.Step.{lacks_life}
use Rattle.nodes_world.proofs.KnownWorlds.{Follows, is_mark}

-- a settled disk leaves only what it reads
only_reads : (disk : DiskState) → IsSettled disk → (image : List ℕ) → IsImage disk.present image → image ≡ disk.reads
only_reads disk settled image is =
    let i : IsImage (record { synced = disk.reads; writes = [] }) image = subst (λ (m : Moment). IsImage m image) settled is in
    let shorter = i.no_shorter in
    let longer = i.no_longer in
    ext_get_or 0 image disk.reads (omega (arith, shorter, longer)) (λ at within. i.kept at (omega (arith, shorter, longer, within)) (λ none. none))

reads_image : (disk : DiskState) → IsSettled disk → IsImage disk.present disk.reads
reads_image disk settled =
    subst (λ (m : Moment). IsImage m disk.reads) (sym settled) (record { no_shorter = omega arith; no_longer = omega arith; kept = λ i within none. refl })

-- ---- one more life

lives_placed : (o_gate : ℕ) (rs : List JournalRecord) (r : JournalRecord) → (more : List Standing) × (placed o_gate (rs ++ r ∷ []) ≡ placed o_gate rs ++ more)
lives_placed gate [] r = (placed gate (r ∷ []), refl)
lives_placed gate (x ∷ rs) r =
    let at = lives_placed (gate + length (record_octets x)) rs r in
    (at.0, ap (λ ss. record { place = gate; item = x } ∷ ss) at.1)

any_more : (P : Standing → Type 0) (xs ys : List Standing) → Any P xs → Any P (xs ++ ys)
any_more P xs ys (i, x, within, at, is) = let there = Contains-append_left xs ys x (i, within, at) in (there.0, x, there.1, there.2, is)

module _ (grow : JournalsGrow) where
  pub life_follows : (service : ℕ) (rs : List JournalRecord) → Follows rs (rs ++ next_life rs ∷ [])
  life_follows service rs =
      let found = grow.added service rs (next_life rs) in
      record {
        life = let is = ap (λ (f : Found). f.life) found in omega (arith, is);
        places = λ o any.
            let at = lives_placed first_gate rs (next_life rs) in
            subst (Any (IsNamedBy o)) (sym at.1) (any_more (IsNamedBy o) (placed first_gate rs) at.0 any);
        others = λ r other c. elim (Contains-push_cases rs (next_life rs) r c) [
          | inl was ↦ was
          | inr new ↦ absurd (no (ap is_mark new ∙ other))
        ];
        some = λ is_so never other.
            list_any-append is_so rs (next_life rs ∷ []) ∙ ap (λ b. list_any is_so rs || (b || false)) (never ((found_in rs).life + 1)) ∙ none (list_any is_so rs);
      }
    where
      no : true ≡ false → ⊥
      no e = cc

      none : (b : Bool) → (b || false) ≡ b
      none true = refl
      none false = refl

  pub next_found : (service : ℕ) (rs : List JournalRecord) → (found_in (rs ++ next_life rs ∷ [])).life ≡ (found_in rs).life + 1
  next_found service rs = ap (λ (f : Found). f.life) (grow.added service rs (next_life rs))

  -- where there is room for a life, it can be appended
  pub can_begin : (service : ℕ) (rs : List JournalRecord) → (found_in rs).life + 1 < 2 ^ 32 → lacks_life service rs ≡ false → CanAppend service rs (next_life rs)
  can_begin service rs fits lacks =
      let within = grow.room area_limit service rs (next_life rs) (at_most (used (front service rs) (found_in rs) + need area_limit (found_in rs) (next_life rs)) area_limit lacks) in
      record {
        fits = fits;
        follows = same ((found_in rs).life + 1);
        within = omega (arith, within);
      }
    where
      same : (n : ℕ) → (n == n) ≡ true
      same n = grind (arith, nat_tests)

      at_most : (a b : ℕ) → nat_lt b a ≡ false → a ≤ b
      at_most a b is = grind (arith, nat_tests)

  pub load_leaves : LoadsAreSafe → (service : ℕ) (rs : List JournalRecord) (disk : DiskState) → IsSettled disk → Holds service disk.reads rs
      → (found_in rs).life + 1 < 2 ^ 32 → lacks_life service rs ≡ false
      → StandsFor service (loaded service rs disk).reads (rs ++ next_life rs ∷ []) × IsSettled (loaded service rs disk)
  load_leaves safe service rs disk settled holds fits lacks =
      let left = safe service rs disk (λ image is. (rs, subst (λ (octets : List ℕ). Holds service octets rs) (sym (only_reads disk settled image is)) holds))
      (reads_image disk settled) holds (can_begin service rs fits lacks) in
      (left.1, left.2)
