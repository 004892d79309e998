-- Time that passes for families: what is done of it, slot by slot.
use Rattle.std.proofs.Common.{◌≡◌, ◌∙◌, ◌⊎◌, inl, inr, ℕ, zero, suc, ◌+◌, ◌<◌, Bool, true, false, cond, List, [], ◌∷◌, ◌++◌, length, get_or, set, map, take, drop, Option, Some, None, Result, Ok, Err, OnOk, OnErr, refl, sym, ap, subst, arith}
use Rattle.std.specs.List.{cons_option, filter_map}
use Rattle.std.specs.Option.{option_map, option_to_list}
use Rattle.std.proofs.lemmas.List.{append-nil, append_assoc, drop_all, get_or-drop, get_or-map, length-map, length-take-le, map-append, map-set, take_all, take_more}
use Rattle.std.proofs.lemmas.List.Concat.{flat_map-append}
use Rattle.std.proofs.lemmas.List.Edits.{map_over_more}
use Rattle.std.proofs.lemmas.List.Elements.{filter_map-append}
use Rattle.std.proofs.Math.Seq.{map-set_same}
use Rattle.ior_refs.specs.declared.key.ObjectKey.{ObjectKey}
use Rattle.ots_model.specs.declared.tree.Outward.{Outward}
use Rattle.coordinator.specs.Family.{Family, FamilyParts}
use Rattle.coordinator.specs.History.{has_room}
use Rattle.coordinator.specs.Node.{Node, family_in}
use Rattle.coordinator.specs.NodeParts.{IsWhole}
use Rattle.coordinator.specs.NodeTick as ticks
use Rattle.coordinator.specs.NodeTick.{happens_in, happens_to, takes_all_over, tick_at, tick_of, ticked}
use Rattle.coordinator.specs.Step.{acted, entered, family_step, is_silent, quiet, wanted, wants_journal}
use Rattle.coordinator.specs.declared.said.Said.TheVariants as said
use Rattle.decision_journal.specs.Journal.{Found}
use Rattle.decision_journal.specs.State.{JournalState}
use Rattle.recovery_coord.specs.Held.{Recoveries}
use Rattle.recovery_coord.specs.declared.held.Held.{Held}
use Rattle.service_node.specs.NodeState.{BelongTogether, node_of, shown}
use Rattle.service_node.specs.Ticking.{AreTaken, HasPassed, HasPassedIn, HasPassedInPart, IsStill, told, words_in, words_of}
use Rattle.service_node.proofs.Keyed.{tick_key}

-- ---- one family

module _ (now : ℕ) (f : Family) where
  -- a tick asks the journal for nothing
  pub tick_alone : wants_journal f (tick_at now) ≡ false
  unfolding wanted
  tick_alone = refl

  -- where its time isn't over it stays as it is
  pub tick_silent : is_silent (tick_at now) f ≡ true → (tick_of now f).family ≡ f
  unfolding family_step
  tick_silent e = by_room (has_room f.entries (tick_at now))
    where
      by_room : (b : Bool) → (cond b (family_step f (tick_at now) None) (quiet said.Plain f)).family ≡ f
      by_room true = ap (λ (s : Bool). (cond s (quiet said.Plain f) (entered f (tick_at now) None (acted (tick_at now) None f))).family) e
      by_room false = refl

  pub happens_silent : is_silent (tick_at now) f ≡ true → happens_to now f ≡ None
  happens_silent e = ap (λ (b : Bool). cond b None (Some (ticks.happening f (tick_of now f)))) e

  pub happens_over : is_silent (tick_at now) f ≡ false → happens_to now f ≡ Some (ticks.happening f (tick_of now f))
  happens_over e = ap (λ (b : Bool). cond b None (Some (ticks.happening f (tick_of now f)))) e

  pub tick_room : has_room f.entries (tick_at now) ≡ true → tick_of now f ≡ family_step f (tick_at now) None
  tick_room e = ap (λ (b : Bool). cond b (family_step f (tick_at now) None) (quiet said.Plain f)) e

  pub tick_full : has_room f.entries (tick_at now) ≡ false → tick_of now f ≡ quiet said.Plain f
  tick_full e = ap (λ (b : Bool). cond b (family_step f (tick_at now) None) (quiet said.Plain f)) e

-- ---- one slot after another

one_of : {Y : Type 0} (o : Option Y) → cons_option o [] ≡ option_to_list o
one_of None = refl
one_of (Some y) = refl

words_one : (o : Option ticks.Happening) → words_in (option_to_list o) ≡ words_of o
words_one None = refl
words_one (Some h) = append-nil h.words

told_one : (o : Option ticks.Happening) → map told (option_to_list o) ≡ option_to_list (option_map told o)
told_one None = refl
told_one (Some h) = refl

module _ (now : ℕ) (zs : List (Option Family)) (i : ℕ) (z : Option Family) (lt : i < length zs) (is : z ≡ get_or zs i z) where
  -- what happened in so many slots, and one more
  happened_more : filter_map (happens_in now) (take (i + 1) zs) ≡ filter_map (happens_in now) (take i zs) ++ option_to_list (happens_in now z)
  happened_more =
      ap (filter_map (happens_in now)) (take_more zs i z lt ∙ ap (λ y. take i zs ++ y ∷ []) (sym is))
      ∙ filter_map-append (happens_in now) (take i zs) (z ∷ [])
      ∙ ap (λ ys. filter_map (happens_in now) (take i zs) ++ ys) (one_of (happens_in now z))

  pub words_more : words_in (filter_map (happens_in now) (take (i + 1) zs)) ≡ words_in (filter_map (happens_in now) (take i zs)) ++ words_of (happens_in now z)
  words_more =
      ap words_in happened_more
      ∙ flat_map-append (λ (h : ticks.Happening). h.words) (filter_map (happens_in now) (take i zs)) (option_to_list (happens_in now z))
      ∙ ap (λ ws. words_in (filter_map (happens_in now) (take i zs)) ++ ws) (words_one (happens_in now z))

  pub told_more : map told (filter_map (happens_in now) (take (i + 1) zs)) ≡ map told (filter_map (happens_in now) (take i zs)) ++ option_to_list (option_map told (happens_in now z))
  told_more =
      ap (map told) happened_more
      ∙ map-append told (filter_map (happens_in now) (take i zs)) (option_to_list (happens_in now z))
      ∙ ap (λ ys. map told (filter_map (happens_in now) (take i zs)) ++ ys) (told_one (happens_in now z))

-- a slot that has passed, among those that have and those that haven't
module _ (now : ℕ) (xs ys : List (Option FamilyParts)) (i : ℕ) (x : Option FamilyParts) (lt : i < length xs) (lt_ys : i < length ys)
    (so_far : map shown ys ≡ map (ticked now) (take i (map shown xs)) ++ drop i (map shown xs)) (is : x ≡ get_or ys i x) where
  shown_within : i < length (map shown xs)
  shown_within = let e = length-map xs shown in omega (arith, e, lt)

  here : shown x ≡ get_or (map shown ys) i (shown x)
  here = ap shown is ∙ sym (get_or-map shown ys i x (shown x) lt_ys)

  pub there : shown x ≡ get_or (map shown xs) i (shown x)
  there =
      here
      ∙ ap (λ (zs : List (Option Family)). get_or zs i (shown x)) so_far
      ∙ at_join (map (ticked now) (take i (map shown xs))) (drop i (map shown xs)) i (shown x) length_front
      ∙ get_or-drop i (map shown xs) 0 (shown x)
      ∙ (let same : i + 0 ≡ i = omega arith in ap (λ (k : ℕ). get_or (map shown xs) k (shown x)) same)
    where
      length_front : length (map (ticked now) (take i (map shown xs))) ≡ i
      length_front = length-map (take i (map shown xs)) (ticked now) ∙ length-take-le i (map shown xs) (let e = shown_within in omega (arith, e))

      at_join : (front back : List (Option Family)) (k : ℕ) (d : Option Family) → length front ≡ k → get_or (front ++ back) k d ≡ get_or back 0 d
      at_join [] back zero d e = refl
      at_join [] back (suc k) d e = absurd cc
      at_join (a ∷ front) back zero d e = absurd cc
      at_join (a ∷ front) back (suc k) d e = at_join front back k d (omega (arith, e))

  pub passed_more : (y : Option FamilyParts) → shown y ≡ ticked now (shown x)
      → map shown (set ys i y) ≡ map (ticked now) (take (i + 1) (map shown xs)) ++ drop (i + 1) (map shown xs)
  passed_more y step =
      map-set shown ys i y
      ∙ ap (λ (v : Option Family). set (map shown ys) i v) step
      ∙ map_over_more (ticked now) (map shown xs) (map shown ys) i (shown x) shown_within so_far here

  pub passed_not : (y : Option FamilyParts) → shown y ≡ shown x
      → map shown (set ys i y) ≡ map (ticked now) (take i (map shown xs)) ++ drop i (map shown xs)
  passed_not y same = map-set_same shown ys i y x (same ∙ ap shown is) ∙ so_far

-- memory was wanted in a slot, behind those that have passed
module _ (now : ℕ) (found : Found) (xs ys : List (Option FamilyParts)) (i : ℕ) (x y : Option FamilyParts) (lt : i < length xs) (lt_ys : i < length ys)
    (so_far : map shown ys ≡ map (ticked now) (take i (map shown xs)) ++ drop i (map shown xs)) (is : x ≡ get_or ys i x) (records later : List Held)
    (taken : AreTaken found now i (map shown xs) records later) (words mid more : List Outward)
    (said : mid ≡ words ++ words_in (filter_map (happens_in now) (take i (map shown xs)))) where
  part_said : more ≡ mid ++ words_of (happens_in now (shown x)) → more ≡ words ++ words_in (filter_map (happens_in now) (take (i + 1) (map shown xs)))
  part_said e =
      e
      ∙ ap (λ (ws : List Outward). ws ++ words_of (happens_in now (shown x))) said
      ∙ append_assoc words (words_in (filter_map (happens_in now) (take i (map shown xs)))) (words_of (happens_in now (shown x)))
      ∙ ap (λ (ws : List Outward). words ++ ws)
      (sym (words_more now (map shown xs) i (shown x) (shown_within now xs ys i x lt lt_ys so_far is) (there now xs ys i x lt lt_ys so_far is)))

  pub part_passed : HasPassedIn now (shown x) (shown y) mid more ⊎ IsStill (shown x) (shown y) mid more → HasPassedInPart now found (map shown xs) (map shown (set ys i y)) records later words more
  part_passed (inl passed) = record {
    count = i + 1;
    passed = record { families = passed_more now xs ys i x lt lt_ys so_far is y passed.family; words_are = part_said passed.words_are };
    handed = i;
    behind = inr refl;
    taken = taken;
  }
  part_passed (inr still) = record {
    count = i;
    passed = record { families = passed_not now xs ys i x lt lt_ys so_far is y still.family; words_are = still.words_are ∙ said };
    handed = i;
    behind = inl refl;
    taken = taken;
  }

-- ---- the node stays whole

module _ (now : ℕ) where
  passed_key : (k : ℕ) (xs : List (Option Family)) (slot : ℕ) (g : Family) → family_in (map (ticked now) (take k xs) ++ drop k xs) slot ≡ Some g
      → (f : Family) × (family_in xs slot ≡ Some f) × (g.key ≡ f.key)
  passed_key zero [] slot g e = absurd cc
  passed_key zero (x ∷ xs) slot g e = (g, e, refl)
  passed_key (suc k) [] slot g e = absurd cc
  passed_key (suc k) (None ∷ xs) zero g e = absurd cc
  passed_key (suc k) (Some f ∷ xs) zero g e = (f, refl, let same : (tick_of now f).family ≡ g = cc in ap (λ (h : Family). h.key) (sym same) ∙ tick_key now f)
  passed_key (suc k) (x ∷ xs) (suc slot) g e = passed_key k xs slot g e

  passed_length : (k : ℕ) (xs : List (Option Family)) → length (map (ticked now) (take k xs) ++ drop k xs) ≡ length xs
  passed_length zero [] = refl
  passed_length zero (x ∷ xs) = refl
  passed_length (suc k) [] = refl
  passed_length (suc k) (x ∷ xs) = ap suc (passed_length k xs)

  pub passed_whole : (n : Node) (k : ℕ) → IsWhole n → IsWhole (record n { families = map (ticked now) (take k n.families) ++ drop k n.families })
  passed_whole n k whole = record {
    slots = passed_length k n.families ∙ whole.slots;
    families = λ slot g e.
        let from = passed_key k n.families slot g e in
        let old = whole.families slot from.0 from.1 in
        record {
          of_service = ap (λ (key : ObjectKey). key.service) from.2 ∙ old.of_service;
          of_life = ap (λ (key : ObjectKey). key.life) from.2 ∙ old.of_life;
          own_slot = ap (λ (key : ObjectKey). key.slot) from.2 ∙ old.own_slot;
          given = let same = ap (λ (key : ObjectKey). key.generation) from.2 in omega (arith, same, old.given);
        };
    last = whole.last;
    numbers = whole.numbers;
    held = whole.held;
  }

-- ---- all slots have passed

module _ (now : ℕ) (fs gs : List (Option Family)) where
  pub all_passed : gs ≡ map (ticked now) (take (length fs) fs) ++ drop (length fs) fs → gs ≡ map (ticked now) fs
  all_passed e =
      e
      ∙ ap (λ (xs : List (Option Family)). map (ticked now) xs ++ drop (length fs) fs) (take_all (length fs) fs (omega arith))
      ∙ ap (λ (xs : List (Option Family)). map (ticked now) fs ++ xs) (drop_all (length fs) fs (omega arith))
      ∙ append-nil (map (ticked now) fs)

  module _ {E : Type 0} (r : Result (Unit {0}) E) (found : Found) (records later : List Held) (words more : List Outward)
      (part : OnErr r (HasPassedInPart now found fs gs records later words more)) where
    -- so far as time has passed, whether or not memory was wanted
    pub passed_some : OnOk r (HasPassed now (length fs) fs gs words more) → (k : ℕ) × (gs ≡ map (ticked now) (take k fs) ++ drop k fs)
    passed_some whole = by_answer r whole part
      where
        by_answer : (r : Result (Unit {0}) E) → OnOk r (HasPassed now (length fs) fs gs words more) → OnErr r (HasPassedInPart now found fs gs records later words more)
            → (k : ℕ) × (gs ≡ map (ticked now) (take k fs) ++ drop k fs)
        by_answer (Ok u) whole part = (length fs, whole.families)
        by_answer (Err e) whole part = (part.count, part.passed.families)

    -- and the records that go on
    pub taken_some : OnOk r (AreTaken found now (length fs) fs records later) → (k : ℕ) × AreTaken found now k fs records later
    taken_some whole = by_answer r whole part
      where
        by_answer : (r : Result (Unit {0}) E) → OnOk r (AreTaken found now (length fs) fs records later) → OnErr r (HasPassedInPart now found fs gs records later words more)
            → (k : ℕ) × AreTaken found now k fs records later
        by_answer (Ok u) whole part = (length fs, whole)
        by_answer (Err e) whole part = (part.handed, part.taken)

pub all_taken : (found : Found) (now : ℕ) (fs : List (Option Family)) (records later : List Held) → AreTaken found now (length fs) fs records later
    → later ≡ takes_all_over found (map (ticked now) fs) records
all_taken found now fs records later e = e ∙ ap (λ (xs : List (Option Family)). takes_all_over found (map (ticked now) xs) records) (take_all (length fs) fs (omega arith))

pub all_words : (now : ℕ) (fs : List (Option Family)) (words more : List Outward) → more ≡ words ++ words_in (filter_map (happens_in now) (take (length fs) fs))
    → more ≡ words ++ words_in (filter_map (happens_in now) fs)
all_words now fs words more e = e ∙ ap (λ (xs : List (Option Family)). words ++ words_in (filter_map (happens_in now) xs)) (take_all (length fs) fs (omega arith))

pub passed_together : {D : Type 0} (journal : JournalState D) (held : Recoveries) (fs gs : List (Option Family)) (last generation now : ℕ) (k : ℕ)
    → BelongTogether journal held fs last generation → gs ≡ map (ticked now) (take k fs) ++ drop k fs → BelongTogether journal held gs last generation
passed_together journal held fs gs last generation now k together is = record {
  whole = subst (λ (xs : List (Option Family)). IsWhole (node_of journal.service journal.found held.records xs last generation)) (sym is)
      (passed_whole now (node_of journal.service journal.found held.records fs last generation) k together.whole);
  own = together.own;
}

-- ---- an answer that may be a refusal

pub on_err : {A E P : Type 0} (r : Result A E) → P → OnErr r P
on_err (Ok x) p = tt
on_err (Err e) p = p

pub on_err_too : {A E P Q : Type 0} (r : Result A E) → (P → Q) → OnErr r P → OnErr r Q
on_err_too (Ok x) f p = tt
on_err_too (Err e) f p = f p
