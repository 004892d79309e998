-- What a node hands out in one life is numbered once: the words of a family go on counting, those of another one have another key, and
-- what is told again has a slot of its own.
use Rattle.std.proofs.Common.{◌≡◌, ◌≢◌, ◌⊎◌, inl, inr, ℕ, ◌+◌, ◌<◌, ◌≤◌, zero, suc, List, [], ◌∷◌, ◌++◌, length, Bool, true, false, if◌then◌else◌, Option, Some, None, Ok, Contains, refl, ap, sym, subst, ◌∙◌, arith}
use Rattle.std.specs.Prelude.{nat_lt, slice_set}
use Rattle.std.specs.List.{AllByRecursion, cons_option, filter_map, flat_map}
use Rattle.std.proofs.lemmas.List.{length-replicate}
use Rattle.ior_refs.specs.declared.key.ObjectKey.{ObjectKey}
use Rattle.ots_model.specs.declared.completion.CallNumber.{CallNumber}
use Rattle.ots_model.specs.declared.completion.Stood.{Stood}
use Rattle.ots_model.specs.declared.tree.Outward.{Outward}
use Rattle.decision_journal.specs.declared.record.JournalRecord.{JournalRecord}
use Rattle.recovery_coord.specs.Held.{is_decided}
use Rattle.recovery_coord.specs.Limits.{retold_slot}
use Rattle.recovery_coord.specs.Telling as telling
use Rattle.recovery_coord.specs.declared.held.Due.{Due}
use Rattle.recovery_coord.specs.declared.held.Due.TheVariants as due
use Rattle.recovery_coord.specs.declared.held.Held.{Held}
use Rattle.recovery_coord.specs.declared.held.Party.{Party}
use Rattle.coordinator.specs.declared.event.Event.{Event}
use Rattle.coordinator.specs.declared.said.Said.TheVariants as said
use Rattle.coordinator.specs.Family.{Family, new_family}
use Rattle.coordinator.specs.History.{has_room}
use Rattle.coordinator.specs.Limits.{generation_limit, slot_limit}
use Rattle.coordinator.specs.Node.{Node, family_in, life, load}
use Rattle.coordinator.specs.NodeCalls.{applies, call_wants, steps_to}
use Rattle.coordinator.specs.NodeLaws.{NodesKeepNumbers}
use Rattle.coordinator.specs.NodeSlots.{creates, deadline_after, free_slot, makes, makes_in, makes_no_family, next_key, with_new}
use Rattle.coordinator.specs.NodeTick.{Happening, happening, happens_in, happens_to, passes_time, tells_again, tick_at, tick_of, ticked, ticks}
use Rattle.coordinator.specs.Step.{Wanted, family_step, is_silent, quiet}
use Rattle.family_laws.specs.LawsOfTelling.{AreNumberedFrom, FamiliesNumberWords}
use Rattle.node_laws.specs.Numbers.{AreApart, AreNumberedOnce, AreToldAgain, HandsOut, IsToldAgain, NumbersAreOnce, tick_words}
use Rattle.node_laws.specs.Numbers.HandsOut.{nothing, made, called, ticked as passes}
use Rattle.node_laws.proofs.Lists.{all_at, all_each, all_joined, all_on, inner, same_or_not}
use Rattle.node_laws.proofs.Rests.{IsKeyed, keyed_all, told_all, words_all}
use Rattle.node_laws.proofs.Rules.{called_life}
use Rattle.node_laws.proofs.Slots.{family_other, family_put, family_same, family_ticked, family_within, map_length, none_in, set_length}
use Rattle.node_laws.proofs.Stands.{Called, called_is}
use Rattle.node_laws.proofs.Stands.Called.{by_answer, by_nothing, by_step}

-- ---- lists of words

once_joined : (xs ys : List Outward) → AreNumberedOnce xs → AreNumberedOnce ys → AllByRecursion (λ (o : Outward). AllByRecursion (AreApart o) ys) xs → AreNumberedOnce (xs ++ ys)
once_joined [] ys h k apart = k
once_joined (o ∷ xs) ys h k apart = (all_joined (AreApart o) xs ys h.0 apart.0, once_joined xs ys h.1 k apart.1)

-- each two of them
apart_each : (xs ys : List Outward) → ((o p : Outward) → Contains xs o → Contains ys p → AreApart o p) → AllByRecursion (λ (o : Outward). AllByRecursion (AreApart o) ys) xs
apart_each xs ys each = all_each (λ (o : Outward). AllByRecursion (AreApart o) ys) xs (λ o c. all_each (AreApart o) ys (λ p d. each o p c d))

-- words that are numbered one after another
above_all : (key : ObjectKey) (serial : ℕ) (some : List Outward) → AreNumberedFrom key serial some → AllByRecursion (λ (o : Outward). serial < o.number.serial) some
above_all key serial [] h = tt
above_all key serial (o ∷ some) h =
    let is = ap (λ (n : CallNumber). n.serial) h.0 in
    (omega (arith, is), all_on (λ (p : Outward). serial + 1 < p.number.serial) (λ (p : Outward). serial < p.number.serial) (λ p l. omega (arith, l)) some (above_all key (serial + 1) some h.1))

up_to_all : (key : ObjectKey) (serial : ℕ) (some : List Outward) → AreNumberedFrom key serial some → AllByRecursion (λ (o : Outward). o.number.serial ≤ serial + length some) some
up_to_all key serial [] h = tt
up_to_all key serial (o ∷ some) h =
    let is = ap (λ (n : CallNumber). n.serial) h.0 in (
      omega (arith, is),
      all_on (λ (p : Outward). p.number.serial ≤ serial + 1 + length some) (λ (p : Outward). p.number.serial ≤ serial + suc (length some)) (λ p l. omega (arith, l)) some
          (up_to_all key (serial + 1) some h.1),
    )

once_numbered : (key : ObjectKey) (serial : ℕ) (some : List Outward) → AreNumberedFrom key serial some → AreNumberedOnce some
once_numbered key serial [] h = tt
once_numbered key serial (o ∷ some) h =
    let is = ap (λ (n : CallNumber). n.serial) h.0 in (
      all_on (λ (p : Outward). serial + 1 < p.number.serial) (AreApart o) (λ p l same. let e = ap (λ (n : CallNumber). n.serial) same in absurd (omega (arith, l, is, e))) some
          (above_all key (serial + 1) some h.1),
      once_numbered key (serial + 1) some h.1,
    )

-- ---- words that are told again

record IsRetold (lives : ℕ) (o : Outward) : Type 0 where
  again : IsToldAgain o
  of_life : o.number.life ≡ lives

retold_one : (lives place : ℕ) (decided : Bool) (p : Party) (d : Due) (o : Outward) → telling.word_by lives place decided p d ≡ Some o → IsRetold lives o
retold_one lives place decided p due.Commit o e = subst (IsRetold lives) (inner e) (record { again = record { slot = refl; of_registration = refl }; of_life = refl })
retold_one lives place true p due.Forget o e = subst (IsRetold lives) (inner e) (record { again = record { slot = refl; of_registration = refl }; of_life = refl })
retold_one lives place false p due.Forget o e = absurd (cc e)
retold_one lives place decided p due.Nothing o e = absurd (cc e)

retold_all : (lives : ℕ) (records : List Held) → AllByRecursion (IsRetold lives) (telling.words lives records)
retold_all lives records = words_all (IsRetold lives) lives records (λ h c.
    told_all (IsRetold lives) lives h.place (is_decided h.kind) h.parties (λ p d o e. retold_one lives h.place (is_decided h.kind) p p.due o e))

once_retold : (lives : ℕ) (some : List Outward) → AllByRecursion (IsRetold lives) some → AreNumberedOnce some
once_retold lives [] h = tt
once_retold lives (o ∷ some) h =
    (all_on (IsRetold lives) (AreApart o) (λ p x same. record { first = h.0.again; second = x.again }) some h.1, once_retold lives some h.1)

-- ---- what a node has given out

record IsSeated (n : Node) (slot : ℕ) (f : Family) : Type 0 where
  of_life : f.key.life ≡ life n
  own_slot : f.key.slot ≡ slot
  given : f.key.generation ≤ n.generation

-- a word of a family: it is of a slot, and where the family is there still, it counts the word
record IsOfFamily (n : Node) (o : Outward) : Type 0 where
  slot : o.number.slot < slot_limit
  number : o.number.generation ≤ n.generation
  within : (f : Family) → family_in n.families o.number.slot ≡ Some f → f.key.generation ≡ o.number.generation → o.number.serial ≤ f.serial

record WasGiven (n : Node) (o : Outward) : Type 0 where
  of_life : o.number.life ≡ life n
  way : IsToldAgain o ⊎ IsOfFamily n o

record IsNumbered (n : Node) (some : List Outward) : Type 0 where
  few : length n.families ≡ slot_limit
  seats : (slot : ℕ) (f : Family) → family_in n.families slot ≡ Some f → IsSeated n slot f
  given : AllByRecursion (WasGiven n) some
  once : AreNumberedOnce some

-- a family that is there goes on counting, or is made anew
record GoesOn (n : Node) (slot : ℕ) (g : Family) : Type 0 where
  f : Family
  there : family_in n.families slot ≡ Some f
  key : g.key ≡ f.key
  counts : f.serial ≤ g.serial

-- what comes of a node in one step
record Becomes (n later : Node) : Type 0 where
  same_life : life later ≡ life n
  few : length later.families ≡ length n.families
  grows : n.generation ≤ later.generation
  kept : (slot : ℕ) (g : Family) → family_in later.families slot ≡ Some g → ((n.generation < g.key.generation) × IsSeated later slot g) ⊎ GoesOn n slot g

-- a word that a family hands out in it
record IsNew (n later : Node) (o : Outward) : Type 0 where
  at : ℕ
  f : Family
  g : Family
  there : family_in n.families at ≡ Some f
  now : family_in later.families at ≡ Some g
  same_key : g.key ≡ f.key
  key : IsKeyed f.key o
  above : f.serial < o.number.serial
  counted : o.number.serial ≤ g.serial

abbrev IsHanded : Node → Node → Outward → Type 0
IsHanded n later o = IsRetold (life n) o ⊎ IsNew n later o

still_given : (n later : Node) (o : Outward) → Becomes n later → WasGiven n o → WasGiven later o
still_given n later o b h = record { of_life = h.of_life ∙ sym b.same_life; way = go h.way }
  where
    count : (x : IsOfFamily n o) (g : Family) → g.key.generation ≡ o.number.generation → ((n.generation < g.key.generation) × IsSeated later o.number.slot g) ⊎ GoesOn n o.number.slot g → o.number.serial ≤ g.serial
    count x g same (inl (newer, seat)) = let most = x.number in absurd (omega (arith, newer, same, most))
    count x g same (inr y) =
        let low = x.within y.f y.there (sym (ap (λ (k : ObjectKey). k.generation) y.key) ∙ same) in
        let more = y.counts in
        omega (arith, low, more)

    go : IsToldAgain o ⊎ IsOfFamily n o → IsToldAgain o ⊎ IsOfFamily later o
    go (inl x) = inl x
    go (inr x) = inr (record {
      slot = x.slot;
      number = let most = x.number in let more = b.grows in omega (arith, most, more);
      within = λ g there same. count x g same (b.kept o.number.slot g there);
    })

still_seated : (n later : Node) → Becomes n later → ((slot : ℕ) (f : Family) → family_in n.families slot ≡ Some f → IsSeated n slot f) → (slot : ℕ) (g : Family) → family_in later.families slot ≡ Some g
    → IsSeated later slot g
still_seated n later b seats slot g there = go (b.kept slot g there)
  where
    go : ((n.generation < g.key.generation) × IsSeated later slot g) ⊎ GoesOn n slot g → IsSeated later slot g
    go (inl x) = x.1
    go (inr y) =
        let s = seats slot y.f y.there in
        let most = s.given in
        let more = b.grows in
        let number = ap (λ (k : ObjectKey). k.generation) y.key in
        record {
          of_life = ap (λ (k : ObjectKey). k.life) y.key ∙ s.of_life ∙ sym b.same_life;
          own_slot = ap (λ (k : ObjectKey). k.slot) y.key ∙ s.own_slot;
          given = omega (arith, most, more, number);
        }

newly_given : (n later : Node) (some : List Outward) (o : Outward) → Becomes n later → IsNumbered n some → IsHanded n later o → WasGiven later o
newly_given n later some o b h (inl x) = record { of_life = x.of_life ∙ sym b.same_life; way = inl x.again }
newly_given n later some o b h (inr x) =
    let s = h.seats x.at x.f x.there in
    let at : o.number.slot ≡ x.at = sym x.key.same_slot ∙ s.own_slot in
    let low = family_within n.families x.at x.f x.there in
    let few = h.few in
    let most = s.given in
    let more = b.grows in
    let number = x.key.same_number in
    record {
      of_life = sym x.key.same_life ∙ s.of_life ∙ sym b.same_life;
      way = inr (record {
        slot = omega (arith, at, low, few);
        number = omega (arith, most, more, number);
        within = λ g there same.
            let is : x.g ≡ g = inner (sym x.now ∙ ap (λ (k : ℕ). family_in later.families k) (sym at) ∙ there) in
            subst (λ (y : Family). o.number.serial ≤ y.serial) is x.counted;
      });
    }

-- a word of before and one that is handed out now
old_new : (n later : Node) (some : List Outward) (o p : Outward) → IsNumbered n some → WasGiven n o → IsHanded n later p → AreApart o p
old_new n later some o p h was hands same = go was.way hands
  where
    no_slot : (q : Outward) → q.number.slot < slot_limit → q.number.slot ≡ retold_slot → ⊥
    no_slot q low is = omega (arith, low, is)

    new_slot : (x : IsNew n later p) → p.number.slot < slot_limit
    new_slot x =
        let s = (h.seats x.at x.f x.there).own_slot in
        let at = x.key.same_slot in
        let low = family_within n.families x.at x.f x.there in
        let few = h.few in
        omega (arith, s, at, low, few)

    slots : o.number.slot ≡ p.number.slot
    slots = ap (λ (k : CallNumber). k.slot) same

    go : IsToldAgain o ⊎ IsOfFamily n o → IsHanded n later p → AreToldAgain o p
    go (inl x) (inl y) = record { first = x; second = y.again }
    go (inl x) (inr y) = absurd (no_slot p (new_slot y) (sym slots ∙ x.slot))
    go (inr x) (inl y) = absurd (no_slot o x.slot (slots ∙ y.again.slot))
    go (inr x) (inr y) =
        let at : o.number.slot ≡ y.at = slots ∙ sym y.key.same_slot ∙ (h.seats y.at y.f y.there).own_slot in
        let low = x.within y.f (ap (λ (k : ℕ). family_in n.families k) at ∙ y.there) (y.key.same_number ∙ sym (ap (λ (k : CallNumber). k.generation) same)) in
        let above = y.above in
        let is = ap (λ (k : CallNumber). k.serial) same in
        absurd (omega (arith, low, above, is))

-- a step, and what goes out in it
goes_on : (n later : Node) (some more : List Outward) → Becomes n later → AllByRecursion (IsHanded n later) more → AreNumberedOnce more → IsNumbered n some → IsNumbered later (some ++ more)
goes_on n later some more b hands once h = record {
  few = b.few ∙ h.few;
  seats = still_seated n later b h.seats;
  given = all_joined (WasGiven later) some more
      (all_on (WasGiven n) (WasGiven later) (λ o x. still_given n later o b x) some h.given)
      (all_on (IsHanded n later) (WasGiven later) (λ o x. newly_given n later some o b h x) more hands);
  once = once_joined some more h.once once (apart_each some more (λ o p c d. old_new n later some o p h (all_at (WasGiven n) some o h.given c) (all_at (IsHanded n later) more p hands d)));
}

-- one in which nothing does
goes_quietly : (n later : Node) (some : List Outward) → Becomes n later → IsNumbered n some → IsNumbered later some
goes_quietly n later some b h = record {
  few = b.few ∙ h.few;
  seats = still_seated n later b h.seats;
  given = all_on (WasGiven n) (WasGiven later) (λ o x. still_given n later o b x) some h.given;
  once = h.once;
}

same_becomes : (n : Node) → Becomes n n
same_becomes n = record {
  same_life = refl;
  few = refl;
  grows = omega arith;
  kept = λ slot g there. inr (record { f = g; there = there; key = refl; counts = omega arith });
}

-- ---- a family is made

new_becomes : (make : ObjectKey → Family) → ((key : ObjectKey) → (make key).key ≡ key) → (slot : ℕ) (n : Node) → Becomes n (with_new make slot n)
new_becomes make keyed slot n = record {
  same_life = refl;
  few = set_length n.families slot (Some (make (next_key n slot)));
  grows = omega arith;
  kept = λ other g there. by other g there (same_or_not other slot);
}
  where
    later : Node
    later = with_new make slot n

    by : (other : ℕ) (g : Family) → family_in later.families other ≡ Some g → (other ≡ slot) ⊎ (other ≢ slot) → ((n.generation < g.key.generation) × IsSeated later other g) ⊎ GoesOn n other g
    by other g there (inl same) =
        let is : make (next_key n slot) ≡ g = inner (family_same n.families slot (Some (make (next_key n slot))) g (subst (λ (k : ℕ). family_in later.families k ≡ Some g) same there)) in
        let key : g.key ≡ next_key n slot = ap (λ (x : Family). x.key) (sym is) ∙ keyed (next_key n slot) in
        let number : g.key.generation ≡ n.generation + 1 = ap (λ (k : ObjectKey). k.generation) key in
        inl (omega (arith, number), record { of_life = ap (λ (k : ObjectKey). k.life) key; own_slot = ap (λ (k : ObjectKey). k.slot) key ∙ sym same; given = omega (arith, number) })
    by other g there (inr apart) =
        inr (record { f = g; there = sym (family_other n.families slot other (Some (make (next_key n slot))) apart) ∙ there; key = refl; counts = omega arith })

made_becomes : (now seconds : ℕ) (n : Node) → Becomes n (creates now seconds n).node
unfolding creates makes
made_becomes now seconds n = by_slot (free_slot n)
  where
    make : ObjectKey → Family
    make key = new_family key (deadline_after now seconds)

    by_number : (slot : ℕ) (t : Bool) → Becomes n (if t then record { node = with_new make slot n; answer = Ok (next_key n slot) } else makes_no_family n).node
    by_number slot true = new_becomes make (λ key. refl) slot n
    by_number slot false = same_becomes n

    by_slot : (o : Option ℕ) → Becomes n (makes_in o make n).node
    by_slot None = same_becomes n
    by_slot (Some slot) = by_number slot (nat_lt n.generation generation_limit)

-- ---- a call comes

module _ (law : FamiliesNumberWords) (n : Node) (f : Family) (e : Event) (stood : Option Stood) (slot : ℕ) (there : family_in n.families slot ≡ Some f) (own : f.key.slot ≡ slot) where
  abbrev stepped : Family
  stepped = (family_step f e stood).family

  abbrev after : Node
  after = (steps_to n f e stood (family_step f e stood)).node

  at_slot : stepped.key.slot ≡ slot
  at_slot = ap (λ (k : ObjectKey). k.slot) (law.key f e stood) ∙ own

  there_now : family_in after.families slot ≡ Some stepped
  there_now = subst (λ (k : ℕ). family_in (slice_set n.families k (Some stepped)) slot ≡ Some stepped) (sym at_slot) (family_put n.families slot stepped (family_within n.families slot f there))

  step_becomes : life after ≡ life n → Becomes n after
  step_becomes same_life = record {
    same_life = same_life;
    few = set_length n.families stepped.key.slot (Some stepped);
    grows = omega arith;
    kept = λ other x i. inr (by other x i (same_or_not other slot));
  }
    where
      by : (other : ℕ) (x : Family) → family_in after.families other ≡ Some x → (other ≡ slot) ⊎ (other ≢ slot) → GoesOn n other x
      by other x i (inl same) =
          let is : stepped ≡ x = inner (sym there_now ∙ ap (λ (k : ℕ). family_in after.families k) (sym same) ∙ i) in
          let counts = law.serial f e stood in
          record {
            f = f;
            there = ap (λ (k : ℕ). family_in n.families k) same ∙ there;
            key = ap (λ (y : Family). y.key) (sym is) ∙ law.key f e stood;
            counts = subst (λ (y : Family). f.serial ≤ y.serial) is (omega (arith, counts));
          }
      by other x i (inr apart) = record { f = x; there = sym (family_other n.families stepped.key.slot other (Some stepped) (λ j. apart (j ∙ at_slot))) ∙ i; key = refl; counts = omega arith }

  step_hands : AllByRecursion (IsHanded n after) (family_step f e stood).words
  step_hands =
      let some : List Outward = (family_step f e stood).words in
      let numbers = law.numbers f e stood in
      all_each (IsHanded n after) some (λ o c.
      let most = all_at (λ (p : Outward). p.number.serial ≤ f.serial + length some) some o (up_to_all f.key f.serial some numbers) c in
      let counts = law.serial f e stood in
      inr (record {
        at = slot;
        f = f;
        g = stepped;
        there = there;
        now = there_now;
        same_key = law.key f e stood;
        key = all_at (IsKeyed f.key) some o (keyed_all f.key f.serial some numbers) c;
        above = all_at (λ (p : Outward). f.serial < p.number.serial) some o (above_all f.key f.serial some numbers) c;
        counted = omega (arith, most, counts);
      }))

nothing_more : (n later : Node) (some : List Outward) → IsNumbered n some → Becomes n later → IsNumbered later (some ++ [])
nothing_more n later some h b = goes_on n later some [] b tt tt h

called_numbered : FamiliesNumberWords → (n : Node) (k : ObjectKey) (e : Event) (stood : Option Stood) (w : Option Wanted) (later : Node) (some more : List Outward) → Called n k e stood w later more
    → life later ≡ life n → IsNumbered n some → IsNumbered later (some ++ more)
called_numbered law n k e stood _ _ some _ (by_step f there) same_life h =
    let own = (h.seats k.slot f there).own_slot in
    goes_on n (steps_to n f e stood (family_step f e stood)).node some (family_step f e stood).words (step_becomes law n f e stood k.slot there own same_life) (step_hands law n f e stood k.slot there own)
    (once_numbered f.key f.serial (family_step f e stood).words (law.numbers f e stood)) h
called_numbered law n k e stood _ _ some _ (by_answer number heard) same_life h =
    nothing_more n _ some h (record {
      same_life = same_life;
      few = refl;
      grows = omega arith;
      kept = λ slot g there. inr (record { f = g; there = there; key = refl; counts = omega arith });
    })
called_numbered law n k e stood _ _ some _ (by_nothing w other) same_life h = nothing_more n n some h (same_becomes n)

-- ---- time passes

-- what a family is and hands out then
record IsTicked (f g : Family) (some : List Outward) : Type 0 where
  key : g.key ≡ f.key
  counts : g.serial ≡ f.serial + length some
  numbers : AreNumberedFrom f.key f.serial some

tick_is : FamiliesNumberWords → (now : ℕ) (f : Family) → IsTicked f (tick_of now f).family (tick_of now f).words
tick_is law now f = go (has_room f.entries (tick_at now))
  where
    go : (t : Bool) → IsTicked f (if t then family_step f (tick_at now) None else quiet said.Plain f).family (if t then family_step f (tick_at now) None else quiet said.Plain f).words
    go true = record { key = law.key f (tick_at now) None; counts = law.serial f (tick_at now) None; numbers = law.numbers f (tick_at now) None }
    go false = record { key = refl; counts = omega arith; numbers = tt }

abbrev words_in : ℕ → List (Option Family) → List Outward
words_in now fs = flat_map (λ (h : Happening). h.words) (filter_map (happens_in now) fs)

-- a word of a family among these, in a slot behind so many
record IsIn (now : ℕ) (fs : List (Option Family)) (o : Outward) : Type 0 where
  at : ℕ
  f : Family
  there : family_in fs at ≡ Some f
  key : IsKeyed f.key o
  above : f.serial < o.number.serial
  counted : o.number.serial ≤ (tick_of now f).family.serial

behind : (now : ℕ) (x : Option Family) (fs : List (Option Family)) (o : Outward) → IsIn now fs o → IsIn now (x ∷ fs) o
behind now x fs o h = record { at = suc h.at; f = h.f; there = h.there; key = h.key; above = h.above; counted = h.counted }

-- the words of the first one, and of the others
record IsFirst (now : ℕ) (x : Option Family) (fs : List (Option Family)) : Type 0 where
  some : List Outward
  are : words_in now (x ∷ fs) ≡ some ++ words_in now fs
  here : AllByRecursion (IsIn now (x ∷ [])) some
  once : AreNumberedOnce some

module _ (law : FamiliesNumberWords) (now : ℕ) where
  first_in : (x : Option Family) (fs : List (Option Family)) → IsFirst now x fs
  first_in None fs = record { some = []; are = refl; here = tt; once = tt }
  first_in (Some f) fs = by (is_silent (tick_at now) f) refl
    where
      some : List Outward
      some = (tick_of now f).words

      t : IsTicked f (tick_of now f).family some
      t = tick_is law now f

      each : AllByRecursion (IsIn now (Some f ∷ [])) some
      each = all_each (IsIn now (Some f ∷ [])) some (λ o c.
          let most = all_at (λ (p : Outward). p.number.serial ≤ f.serial + length some) some o (up_to_all f.key f.serial some t.numbers) c in
          let counts = t.counts in
          record {
            at = 0;
            f = f;
            there = refl;
            key = all_at (IsKeyed f.key) some o (keyed_all f.key f.serial some t.numbers) c;
            above = all_at (λ (p : Outward). f.serial < p.number.serial) some o (above_all f.key f.serial some t.numbers) c;
            counted = omega (arith, most, counts);
          })

      -- what happens to it, by whether anything does
      words_are : (o : Option Happening) → happens_to now f ≡ o → (more : List Outward) → flat_map (λ (h : Happening). h.words) (cons_option o (filter_map (happens_in now) fs)) ≡ more ++ words_in now fs
          → words_in now (Some f ∷ fs) ≡ more ++ words_in now fs
      words_are o i more e = ap (λ (y : Option Happening). flat_map (λ (h : Happening). h.words) (cons_option y (filter_map (happens_in now) fs))) i ∙ e

      by : (b : Bool) → is_silent (tick_at now) f ≡ b → IsFirst now (Some f) fs
      by true i = record {
        some = [];
        are = words_are None (ap (λ (c : Bool). if c then None else Some (happening f (tick_of now f))) i) [] refl;
        here = tt;
        once = tt;
      }
      by false i = record {
        some = some;
        are = words_are (Some (happening f (tick_of now f))) (ap (λ (c : Bool). if c then None else Some (happening f (tick_of now f))) i) some refl;
        here = each;
        once = once_numbered f.key f.serial some t.numbers;
      }

  here_too : (x : Option Family) (fs : List (Option Family)) (o : Outward) → IsIn now (x ∷ []) o → IsIn now (x ∷ fs) o
  here_too x fs o h = go h.at h.there
    where
      go : (k : ℕ) → family_in (x ∷ []) k ≡ Some h.f → IsIn now (x ∷ fs) o
      go zero i = record { at = 0; f = h.f; there = i; key = h.key; above = h.above; counted = h.counted }
      go (suc k) i = absurd (cc i)

  all_in : (fs : List (Option Family)) → AllByRecursion (IsIn now fs) (words_in now fs)
  all_in [] = tt
  all_in (x ∷ fs) =
      let first = first_in x fs in
      subst (λ (ws : List Outward). AllByRecursion (IsIn now (x ∷ fs)) ws) (sym first.are)
      (all_joined (IsIn now (x ∷ fs)) first.some (words_in now fs) (all_on (IsIn now (x ∷ [])) (IsIn now (x ∷ fs)) (here_too x fs) first.some first.here)
      (all_on (IsIn now fs) (IsIn now (x ∷ fs)) (λ o h. behind now x fs o h) (words_in now fs) (all_in fs)))

  -- those of two slots have two keys
  once_in : (b : ℕ) (fs : List (Option Family)) → ((i : ℕ) (f : Family) → family_in fs i ≡ Some f → f.key.slot ≡ b + i) → AreNumberedOnce (words_in now fs)
  once_in b [] seats = tt
  once_in b (x ∷ fs) seats =
      let first = first_in x fs in
      subst AreNumberedOnce (sym first.are)
      (once_joined first.some (words_in now fs) first.once (once_in (b + 1) fs (λ i f there. let s = seats (suc i) f there in omega (arith, s)))
      (apart_each first.some (words_in now fs) (λ o p c d same.
      absurd (other_slot o p (all_at (IsIn now (x ∷ [])) first.some o first.here c) (all_at (IsIn now fs) (words_in now fs) p (all_in fs) d) (ap (λ (k : CallNumber). k.slot) same)))))
    where
      first_slot : (o : Outward) → (h : IsIn now (x ∷ []) o) → (k : ℕ) → family_in (x ∷ []) k ≡ Some h.f → o.number.slot ≡ b + 0
      first_slot o h zero i = sym h.key.same_slot ∙ seats 0 h.f i
      first_slot o h (suc k) i = absurd (cc i)

      other_slot : (o p : Outward) → IsIn now (x ∷ []) o → IsIn now fs p → o.number.slot ≡ p.number.slot → ⊥
      other_slot o p h k same =
          let one = first_slot o h h.at h.there in
          let two = sym k.key.same_slot ∙ seats (suc k.at) k.f k.there in
          omega (arith, one, two, same)

  -- of a node
  abbrev then_node : Node → Node
  then_node n = tells_again (passes_time now n)

  tick_becomes : (n : Node) → Becomes n (then_node n)
  tick_becomes n = record {
    same_life = refl;
    few = map_length (ticked now) n.families;
    grows = omega arith;
    kept = λ slot g there. inr (by slot g (family_in n.families slot) refl (sym (family_ticked now n.families slot) ∙ there));
  }
    where
      by : (slot : ℕ) (g : Family) (o : Option Family) → family_in n.families slot ≡ o → ticked now o ≡ Some g → GoesOn n slot g
      by slot g None i e = absurd (cc e)
      by slot g (Some f) i e =
          let t = tick_is law now f in
          let is : (tick_of now f).family ≡ g = inner e in
          let counts = t.counts in
          record {
            f = f;
            there = i;
            key = ap (λ (y : Family). y.key) (sym is) ∙ t.key;
            counts = subst (λ (y : Family). f.serial ≤ y.serial) is (omega (arith, counts));
          }

  families_hand : (n : Node) → AllByRecursion (IsHanded n (then_node n)) (words_in now n.families)
  families_hand n = all_on (IsIn now n.families) (IsHanded n (then_node n)) hand (words_in now n.families) (all_in n.families)
    where
      hand : (o : Outward) → IsIn now n.families o → IsHanded n (then_node n) o
      hand o h = inr (record {
        at = h.at;
        f = h.f;
        g = (tick_of now h.f).family;
        there = h.there;
        now = family_ticked now n.families h.at ∙ ap (λ (x : Option Family). ticked now x) h.there;
        same_key = (tick_is law now h.f).key;
        key = h.key;
        above = h.above;
        counted = h.counted;
      })

  tick_numbered : (n : Node) (some : List Outward) → IsNumbered n some → IsNumbered (then_node n) (some ++ (words_in now n.families ++ telling.words (life (then_node n)) (then_node n).recovered))
  tick_numbered n some h =
      goes_on n (then_node n) some (words_in now n.families ++ again) (tick_becomes n)
      (all_joined (IsHanded n (then_node n)) (words_in now n.families) again (families_hand n) (all_on (IsRetold (life n)) (IsHanded n (then_node n)) (λ o x. inl x) again told))
      (once_joined (words_in now n.families) again (once_in 0 n.families (λ i f there. let own = (h.seats i f there).own_slot in omega (arith, own))) (once_retold (life n) again told)
      (apart_each (words_in now n.families) again (λ o p c d same. absurd (two_slots o p (all_at (IsIn now n.families) (words_in now n.families) o (all_in n.families) c) (all_at (IsRetold (life n)) again p told d) (ap (λ (k : CallNumber). k.slot) same))))) h
    where
      again : List Outward
      again = telling.words (life (then_node n)) (then_node n).recovered

      told : AllByRecursion (IsRetold (life n)) again
      told = retold_all (life n) (then_node n).recovered

      two_slots : (o p : Outward) → IsIn now n.families o → IsRetold (life n) p → o.number.slot ≡ p.number.slot → ⊥
      two_slots o p x y same =
          let s = (h.seats x.at x.f x.there).own_slot in
          let at = x.key.same_slot in
          let low = family_within n.families x.at x.f x.there in
          let few = h.few in
          let far = y.again.slot in
          omega (arith, s, at, low, few, far, same)

ticks_numbered : FamiliesNumberWords → (now : ℕ) (n : Node) (some : List Outward) → IsNumbered n some → IsNumbered (ticks now n).node (some ++ tick_words now n)
unfolding ticks
ticks_numbered law now n some h = tick_numbered law now n some h

-- ---- whatever a node does in its life

loaded_numbered : (service : ℕ) (records : List JournalRecord) → IsNumbered (load service records) []
loaded_numbered service records = record {
  few = length-replicate {A = Option Family} slot_limit None;
  seats = λ slot f there. absurd (none_in slot_limit slot f there);
  given = tt;
  once = tt;
}

then_life : (now : ℕ) (m : Node) → life (ticks now m).node ≡ life m
unfolding ticks
then_life now m = refl

record AreOfLife (lives : ℕ) (n : Node) (some : List Outward) : Type 0 where
  same_life : life n ≡ lives
  numbered : IsNumbered n some

handed : FamiliesNumberWords → NodesKeepNumbers → (n : Node) → IsNumbered n [] → (later : Node) (some : List Outward) → HandsOut n later some → AreOfLife (life n) later some
handed law keep n h _ _ nothing = record { same_life = refl; numbered = h }
handed law keep n h _ _ (made now seconds later some on) =
    let x = handed law keep n h later some on in
    let b = made_becomes now seconds later in
    record { same_life = b.same_life ∙ x.same_life; numbered = goes_quietly later (creates now seconds later).node some b x.numbered }
handed law keep n h _ _ (called k e stood later some on) =
    let x = handed law keep n h later some on in
    let same = called_life keep k e stood later in
    record {
      same_life = same ∙ x.same_life;
      numbered = called_numbered law later k e stood (call_wants k e later) (applies k e stood later).node some (applies k e stood later).words (called_is later k e stood) same x.numbered;
    }
handed law keep n h _ _ (passes now later some on) =
    let x = handed law keep n h later some on in
    record { same_life = then_life now later ∙ x.same_life; numbered = ticks_numbered law now later some x.numbered }

pub numbers_are_once : FamiliesNumberWords → NodesKeepNumbers → NumbersAreOnce
numbers_are_once law keep = record {
  once = λ service records later some on. (handed law keep (load service records) (loaded_numbered service records) later some on).numbered.once;
  of_life = of_life;
  of_two_lives = λ service other records more n m some others o p on also less c d same.
      let one = of_life service records n some o on c in
      let two = of_life other more m others p also d in
      let lives = ap (λ (k : CallNumber). k.life) same in
      absurd (omega (arith, one, two, lives, less));
}
  where
    of_life : (service : ℕ) (records : List JournalRecord) (later : Node) (some : List Outward) (o : Outward) → HandsOut (load service records) later some → Contains some o
        → o.number.life ≡ life (load service records)
    of_life service records later some o on c =
        let x = handed law keep (load service records) (loaded_numbered service records) later some on in
        (all_at (WasGiven later) some o x.numbered.given c).of_life ∙ x.same_life
