-- The words of a tick come by slot.
use Rattle.std.proofs.Common.{◌≡◌, ℕ, suc, ◌+◌, ◌≤◌, Bool, true, false, cond, List, [], ◌∷◌, ◌++◌, length, filter_map, slice_get, Option, Some, None, refl, sym, ap, subst, ◌∙◌, arith, append_assoc}
use Rattle.std.specs.List.{cons_option}
use Rattle.std.specs.Option.{option_and_then}
use Rattle.std.proofs.lemmas.List.Concat.{flat_map-cons}
use Rattle.ior_refs.specs.declared.key.ObjectKey.{ObjectKey}
use Rattle.ots_model.specs.declared.tree.Outward.{Outward}
use Rattle.recovery_coord.specs.Held.{is_decided}
use Rattle.recovery_coord.specs.Limits.{retold_slot}
use Rattle.recovery_coord.specs.Telling.{word_by, word_to, words, words_of}
use Rattle.recovery_coord.specs.declared.held.Due.{Due}
use Rattle.recovery_coord.specs.declared.held.Due.TheVariants as due
use Rattle.recovery_coord.specs.declared.held.Held.{Held}
use Rattle.recovery_coord.specs.declared.held.Party.{Party}
use Rattle.coordinator.specs.Family.{Family}
use Rattle.coordinator.specs.History.{has_room}
use Rattle.coordinator.specs.Node.{Node, life}
use Rattle.coordinator.specs.NodeTick.{Happening, happening, happens_in, happens_to, passes_time, tells_again, tick_at, tick_of, ticks}
use Rattle.coordinator.specs.Step.{family_step, is_silent, quiet}
use Rattle.coordinator.specs.declared.said.Said.TheVariants as said
use Rattle.family_laws.specs.LawsOfTelling.{AreNumberedFrom, FamiliesNumberWords}
use Rattle.family_laws.specs.SoundNode.{IsSoundNode}
use Rattle.service_node.specs.Ticking.{words_in}
use Rattle.nodes_seats.specs.Ticking.{AreBySlot}
use Rattle.nodes_seats.specs.Waiting.{AreOf, BeginsOther}

-- ---- the words of a family

numbered_of : (key : ObjectKey) (serial : ℕ) (some : List Outward) → AreNumberedFrom key serial some → AreOf key.slot some
numbered_of key serial [] h = tt
numbered_of key serial (o ∷ others) h = (ap (λ n. n.slot) h.0, numbered_of key (serial + 1) others h.1)

-- what happened to a family bears its key, and its words are of its slot
record IsOf (f : Family) (h : Happening) : Type 0 where
  key : h.key ≡ f.key
  own : AreOf f.key.slot h.words

-- each family is in its slot, from this one on
abbrev AreIn : ℕ → List (Option Family) → Type 0
AreIn slot families = (i : ℕ) (f : Family) → slice_get families i ≡ Some (Some f) → f.key.slot ≡ slot + i

later_in : (slot : ℕ) (place : Option Family) (families : List (Option Family)) → AreIn slot (place ∷ families) → AreIn (slot + 1) families
later_in slot place families h = λ i f there. let e : f.key.slot ≡ slot + suc i = h (suc i) f there in omega arith

-- there are none, or the first is of this slot, or a later one
abbrev From : ℕ → List Outward → Type 0
From slot [] = Unit {0}
From slot (o ∷ others) = slot ≤ o.number.slot

from_before : (slot : ℕ) (some : List Outward) → From (slot + 1) some → From slot some
from_before slot [] h = tt
from_before slot (o ∷ others) h = omega arith

from_own : (slot : ℕ) (own more : List Outward) → AreOf slot own → From (slot + 1) more → From slot (own ++ more)
from_own slot [] more h m = from_before slot more m
from_own slot (o ∷ own) more h m = let e = h.0 in omega arith

other_from : (slot : ℕ) (some : List Outward) → From (slot + 1) some → BeginsOther slot some
other_from slot [] h = tt
other_from slot (o ∷ others) h = λ e. absurd (omega arith)

pub words_more : (h : Happening) (others : List Happening) (more : List Outward) → words_in (h ∷ others) ++ more ≡ h.words ++ (words_in others ++ more)
words_more h others more =
    ap (λ xs. xs ++ more) (flat_map-cons (λ (x : Happening). x.words) h others) ∙ append_assoc h.words (words_in others) more

module _ (law : FamiliesNumberWords) (now : ℕ) where
  stepped_of : (f : Family) → AreOf f.key.slot (tick_of now f).words
  stepped_of f = by_room (has_room f.entries (tick_at now))
    where
      by_room : (b : Bool) → AreOf f.key.slot (cond b (family_step f (tick_at now) None) (quiet said.Plain f)).words
      by_room true = numbered_of f.key f.serial (family_step f (tick_at now) None).words (law.numbers f (tick_at now) None)
      by_room false = tt

  happened_of : (f : Family) (h : Happening) → happens_to now f ≡ Some h → IsOf f h
  happened_of f h e = by_silence (is_silent (tick_at now) f) e
    where
      by_silence : (b : Bool) → cond b None (Some (happening f (tick_of now f))) ≡ Some h → IsOf f h
      by_silence true e = absurd cc
      by_silence false e =
          let same : happening f (tick_of now f) ≡ h = cc in
          subst (λ (x : Happening). IsOf f x) same (record { key = refl; own = stepped_of f })

  -- ---- the words of families, one after another

  abbrev happened_in : List (Option Family) → List Happening
  happened_in families = filter_map (happens_in now) families

  begins_from : (slot : ℕ) (families : List (Option Family)) (more : List Outward) → AreIn slot families → From (slot + length families) more
      → From slot (words_in (happened_in families) ++ more)
  begins_from slot [] more h m = let e : slot + 0 ≡ slot = omega arith in subst (λ n. From n more) e m
  begins_from slot (None ∷ families) more h m =
      let e : slot + suc (length families) ≡ slot + 1 + length families = omega arith in
      from_before slot (words_in (happened_in families) ++ more) (begins_from (slot + 1) families more (later_in slot None families h) (subst (λ n. From n more) e m))
  begins_from slot (Some f ∷ families) more h m =
      let e : slot + suc (length families) ≡ slot + 1 + length families = omega arith in
      with_one (happens_to now f) refl (begins_from (slot + 1) families more (later_in slot (Some f) families h) (subst (λ n. From n more) e m))
    where
      with_one : (o : Option Happening) → happens_to now f ≡ o → From (slot + 1) (words_in (happened_in families) ++ more)
          → From slot (words_in (cons_option o (happened_in families)) ++ more)
      with_one None none rest = from_before slot (words_in (happened_in families) ++ more) rest
      with_one (Some x) some rest =
          let own = happened_of f x some in
          let at : f.key.slot ≡ slot = (let e : f.key.slot ≡ slot + 0 = h 0 f refl in omega arith) in
          subst (λ ws. From slot ws) (sym (words_more x (happened_in families) more))
          (from_own slot x.words (words_in (happened_in families) ++ more) (subst (λ n. AreOf n x.words) at own.own) rest)

  by_slot_from : (slot : ℕ) (families : List (Option Family)) (more : List Outward) → AreIn slot families → From (slot + length families) more
      → AreBySlot (happened_in families) more
  by_slot_from slot [] more h m = tt
  by_slot_from slot (None ∷ families) more h m =
      let e : slot + suc (length families) ≡ slot + 1 + length families = omega arith in
      by_slot_from (slot + 1) families more (later_in slot None families h) (subst (λ n. From n more) e m)
  by_slot_from slot (Some f ∷ families) more h m =
      let e : slot + suc (length families) ≡ slot + 1 + length families = omega arith in
      let n : From (slot + 1 + length families) more = subst (λ n. From n more) e m in
      with_one (happens_to now f) refl (begins_from (slot + 1) families more (later_in slot (Some f) families h) n)
      (by_slot_from (slot + 1) families more (later_in slot (Some f) families h) n)
    where
      with_one : (o : Option Happening) → happens_to now f ≡ o → From (slot + 1) (words_in (happened_in families) ++ more)
          → AreBySlot (happened_in families) more → AreBySlot (cons_option o (happened_in families)) more
      with_one None none begins rest = rest
      with_one (Some x) some begins rest =
          let own = happened_of f x some in
          let at : f.key.slot ≡ slot = (let e : f.key.slot ≡ slot + 0 = h 0 f refl in omega arith) in
          let same : f.key.slot ≡ x.key.slot = ap (λ k. k.slot) (sym own.key) in
          let here : slot ≡ x.key.slot = sym at ∙ same in (
            subst (λ n. AreOf n x.words) same own.own,
            subst (λ n. BeginsOther n (words_in (happened_in families) ++ more)) here (other_from slot (words_in (happened_in families) ++ more) begins),
            rest,
          )

-- ---- the words that are told again

of_joined : (slot : ℕ) (some more : List Outward) → AreOf slot some → AreOf slot more → AreOf slot (some ++ more)
of_joined slot [] more h m = m
of_joined slot (o ∷ some) more h m = (h.0, of_joined slot some more h.1 m)

retold_party : (life place : ℕ) (decided : Bool) (parties : List Party) → AreOf retold_slot (filter_map (word_to life place decided) parties)
retold_party life place decided [] = tt
retold_party life place decided (p ∷ parties) = with_one decided p.due (retold_party life place decided parties)
  where
    with_one : (b : Bool) (d : Due) → AreOf retold_slot (filter_map (word_to life place decided) parties)
        → AreOf retold_slot (cons_option (word_by life place b p d) (filter_map (word_to life place decided) parties))
    with_one b due.Commit rest = (refl, rest)
    with_one true due.Forget rest = (refl, rest)
    with_one false due.Forget rest = rest
    with_one b due.Nothing rest = rest

retold_of : (life : ℕ) (records : List Held) → AreOf retold_slot (words life records)
retold_of life [] = tt
retold_of life (r ∷ records) =
    subst (λ ws. AreOf retold_slot ws) (sym (flat_map-cons (words_of life) r records))
    (of_joined retold_slot (words_of life r) (words life records) (retold_party life r.place (is_decided r.kind) r.parties) (retold_of life records))

from_retold : (some : List Outward) → AreOf retold_slot some → From 256 some
from_retold [] h = tt
from_retold (o ∷ some) h = let e = h.0 in omega arith

-- ---- a tick

pub by_slot : FamiliesNumberWords → (now : ℕ) (n : Node) → IsSoundNode n → AreBySlot (ticks now n).happened (ticks now n).words
unfolding ticks
by_slot law now n sound =
    let later : Node = tells_again (passes_time now n) in
    let more : List Outward = words (life later) later.recovered in
    let e : length n.families ≡ 256 = sound.slots in
    let many : 256 ≡ 0 + length n.families = omega arith in
    by_slot_from law now 0 n.families more
    (λ i f there.
    let e : f.key.slot ≡ i = (sound.families i f (ap (λ (o : Option (Option Family)). option_and_then (λ (x : Option Family). x) o) there)).0.own_slot in
    let same : 0 + i ≡ i = omega arith in
    e ∙ sym same)
    (subst (λ k. From k more) many (from_retold more (retold_of (life later) later.recovered)))
