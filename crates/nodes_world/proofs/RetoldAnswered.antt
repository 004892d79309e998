-- A word that a node tells again is commit, or goes to one that has answered commit.
use Rattle.std.proofs.Common.{◌≡◌, ◌⊎◌, inl, inr, ℕ, suc, ◌+◌, Bool, true, false, if◌then◌else◌, List, [], ◌∷◌, filter_map, Contains, Option, Some, None, refl, sym, ap, subst, ◌∙◌, arith}
use Rattle.std.specs.List.{cons_option}
use Rattle.std.specs.Option.{option_and_then}
use Rattle.std.proofs.lemmas.List.Elements.{Contains-append_cases}
use Rattle.ior_refs.specs.declared.key.ObjectKey.{ObjectKey}
use Rattle.ots_model.specs.declared.completion.CallNumber.{CallNumber}
use Rattle.ots_model.specs.declared.completion.Stood.{Stood}
use Rattle.ots_model.specs.declared.tree.Outward.{Outward}
use Rattle.ots_model.specs.declared.completion.Word.TheVariants as phase_words
use Rattle.ots_model.specs.declared.tree.Word.TheVariants as words
use Rattle.recovery_coord.specs.Limits.{retold_slot}
use Rattle.recovery_coord.specs.Telling as telling
use Rattle.recovery_coord.specs.declared.held.Due.TheVariants as due
use Rattle.recovery_coord.specs.declared.held.Party.{Party}
use Rattle.coordinator.specs.declared.event.Event.{Event}
use Rattle.coordinator.specs.declared.node.NodeFault.TheVariants as faults
use Rattle.coordinator.specs.declared.said.Said.{Said}
use Rattle.coordinator.specs.declared.said.Said.TheVariants as said
use Rattle.coordinator.specs.Family.{Family}
use Rattle.coordinator.specs.History.{has_room}
use Rattle.coordinator.specs.Node.{Node, family_in, family_of, life}
use Rattle.coordinator.specs.NodeCalls.{RetoldAnswer, answers_recovered, applied_by, applies, by_records, family_for, hears_record, records_hear, refuses, replies, retold_answer, steps_to}
use Rattle.coordinator.specs.NodeRecords.{record_of, record_says}
use Rattle.coordinator.specs.NodeTick.{Happening, happening, happens_in, tick_at, tick_of, ticks}
use Rattle.coordinator.specs.Step.{family_step, is_silent, quiet}
use Rattle.family_laws.specs.LawsOfTelling.{AreNumberedFrom, FamiliesNumberWords}
use Rattle.nodes_world.specs.declared.message.Content.{Content}
use Rattle.nodes_world.specs.AgreementInside.{Known}
use Rattle.nodes_world.specs.Told.{Told}
use Rattle.nodes_world.specs.World.{World, node_at}
use Rattle.nodes_world.proofs.AnsweredCommits.{HasAnsweredCommit, answered_on}
use Rattle.nodes_world.proofs.CallKnown.{key_slot}
use Rattle.nodes_world.proofs.CanGo.{in_slot}
use Rattle.nodes_world.proofs.DuesHeard.{AreDueOr, IsDueOr}
use Rattle.nodes_world.proofs.HeldAnswered.{HeldAnswered, RetoldAnswered}
use Rattle.nodes_world.proofs.KnownFamilies.{all_at}
use Rattle.nodes_world.proofs.LoadedNodes.{one_of}
use Rattle.nodes_world.proofs.MessagesGo.{HasContent}
use Rattle.nodes_world.proofs.RetoldWords.{IsRetold, words_retold}
use Rattle.nodes_world.proofs.SentWords.{WordComes, WordsCome, of_call, of_tick, told_again}
use Rattle.nodes_world.proofs.ToldReplied.{family_for_of, slot_found}

no_word : (o : Outward) → Contains [] o → ⊥
no_word o (i, less, is) = omega (arith, less)

-- ---- whose word it is

-- a word of a step of a family that the node has
record IsOfFamily (n : Node) (e : Event) (stood : Option Stood) (o : Outward) : Type 0 where
  slot : ℕ
  family : Family
  there : family_in n.families slot ≡ Some family
  among : Contains (family_step family e stood).words o

module _ (k : ObjectKey) (e : Event) (stood : Option Stood) (n : Node) (o : Outward) where
  no_heard : (a : RetoldAnswer) → Contains (hears_record a.number a.heard stood n).words o → ⊥
  unfolding hears_record
  no_heard a = by _
    where
      by : (t : Bool) → Contains (if t then records_hear a.number a.heard stood n else refuses faults.ObjectNotExist n).words o → ⊥
      by true among = no_word o among
      by false among = no_word o among

  no_reply : (x : Option Said) → Contains (replies x n).words o → ⊥
  no_reply (Some answer) among = no_word o among
  no_reply None among = no_word o among

  no_recovered : Contains (answers_recovered k e stood n).words o → ⊥
  unfolding answers_recovered
  no_recovered = by (retold_answer e.act)
    where
      by : (a : Option RetoldAnswer) → Contains (by_records a k e stood n).words o → ⊥
      by (Some a) = no_heard a
      by None = no_reply (option_and_then (record_says k e.key e.act) (record_of k n))

  by_family : (f : Family) → family_of k n ≡ Some f → (t : Bool)
      → Contains (if t then steps_to n f e stood (family_step f e stood) else refuses faults.NoResources n).words o → IsOfFamily n e stood o
  by_family f of true among = record { slot = k.slot; family = f; there = (key_slot k n f of).0; among = among }
  by_family f of false among = absurd (no_word o among)

  applied_word : (numbers : FamiliesNumberWords) → Contains (applies k e stood n).words o → IsOfFamily n e stood o
  unfolding applies
  applied_word numbers among = by (family_for k e n) refl among
    where
      by : (x : Option Family) → family_for k e n ≡ x → Contains (applied_by x k e stood n).words o → IsOfFamily n e stood o
      by (Some f) of among = by_family f (family_for_of numbers k e stood n k.slot f f of) (has_room f.entries e) among
      by None of among = absurd (no_recovered among)

-- what happened in a tick is of a step of a family
abbrev IsTickedWord : ℕ → List (Option Family) → Outward → Type 0
IsTickedWord now fs o = (slot : ℕ) × (f : Family) × (family_in fs slot ≡ Some f) × Contains (family_step f (tick_at now) None).words o

ticked_word : (now : ℕ) (fs : List (Option Family)) (h : Happening) (o : Outward) → Contains (filter_map (happens_in now) fs) h → Contains h.words o → IsTickedWord now fs o
ticked_word now [] h o (i, less, is) word = absurd (omega (arith, less))
ticked_word now (None ∷ fs) h o among word = let at = ticked_word now fs h o among word in (suc at.0, at.1, at.2, at.3)
ticked_word now (Some f ∷ fs) h o among word = by (is_silent (tick_at now) f) among (λ c. ticked_word now fs h o c word)
  where
    further : IsTickedWord now fs o → IsTickedWord now (Some f ∷ fs) o
    further (slot, g, there, own) = (suc slot, g, there, own)

    by_room : (t : Bool) → Contains (happening f (if t then family_step f (tick_at now) None else quiet said.Plain f)).words o → Contains (family_step f (tick_at now) None).words o
    by_room true own = own
    by_room false own = absurd (no_word o own)

    by : (t : Bool) → Contains (cons_option (if t then None else Some (happening f (tick_of now f))) (filter_map (happens_in now) fs)) h
        → (Contains (filter_map (happens_in now) fs) h → IsTickedWord now fs o) → IsTickedWord now (Some f ∷ fs) o
    by true among rest = further (rest among)
    by false among rest = elim (Contains-append_cases (happening f (tick_of now f) ∷ []) (filter_map (happens_in now) fs) h among) [
      | inl first ↦ (
        0,
        f,
        refl,
        by_room (has_room f.entries (tick_at now)) (subst (λ (y : Happening). Contains y.words o) (sym (one_of (happening f (tick_of now f)) h first)) word),
      )
      | inr later ↦ further (rest later)
    ]

-- words of a family have its slot
numbered_slot : (key : ObjectKey) (serial : ℕ) (some : List Outward) (o : Outward) → AreNumberedFrom key serial some → Contains some o → o.number.slot ≡ key.slot
numbered_slot key serial [] o numbered among = absurd (no_word o among)
numbered_slot key serial (x ∷ some) o (one, numbered) among = elim (Contains-append_cases (x ∷ []) some o among) [
  | inl first ↦ ap (λ (y : Outward). y.number.slot) (sym (one_of x o first)) ∙ ap (λ (y : CallNumber). y.slot) one
  | inr later ↦ numbered_slot key (serial + 1) some o numbered later
]

-- ---- a step

module _ (numbers : FamiliesNumberWords) (w : World) (told : List Told) (k : Known w told) (retold : RetoldAnswered w) where
  -- no word of a family is told again
  not_again : (place : ℕ) (n : Node) → node_at w place ≡ Some n → (slot : ℕ) (f : Family) → family_in n.families slot ≡ Some f → (e : Event) (stood : Option Stood) (o : Outward)
      → Contains (family_step f e stood).words o → o.number.slot ≡ retold_slot → ⊥
  not_again place n up slot f there e stood o among again =
      in_slot w told k f.key f (slot_found w told k place n up slot f there)
      (sym (numbered_slot f.key f.serial (family_step f e stood).words o (numbers.numbers f e stood) among) ∙ again)

  module _ (v : World) (come : WordsCome w v v) (on : (nth : ℕ) (content : Content) → HasContent w nth content → HasContent v nth content) (held : HeldAnswered v) where
    due_answered : (p : Party) → IsDueOr (HasAnsweredCommit v) p → p.due ≡ due.Forget → HasAnsweredCommit v p.to
    due_answered p (inl waits) forget = absurd (no (sym waits ∙ forget))
      where
        no : due.Commit ≡ due.Forget → ⊥
        no e = cc
    due_answered p (inr is) forget = is

    by_comes : (place : ℕ) (o : Outward) → o.number.slot ≡ retold_slot → WordComes w v place o → (o.word ≡ words.Phase phase_words.Commit) ⊎ HasAnsweredCommit v o.to
    unfolding ticks
    by_comes place o again (of_call key e stood n up among) =
        let at = applied_word key e stood n o numbers among in
        absurd (not_again place n up at.slot at.family at.there e stood o at.among again)
    by_comes place o again (of_tick now n h up among word) = absurd (ticked h among word)
      where
        ticked : (h : Happening) → Contains (ticks now n).happened h → Contains h.words o → ⊥
        ticked h among word =
            let at = ticked_word now n.families h o among word in
            not_again place n up at.0 at.1 at.2 (tick_at now) None o at.3 again
    by_comes place o again (told_again now n up up_then among) = by (is_of among)
      where
        m : Node
        m = (ticks now n).node

        is_of : Contains (ticks now n).words o → IsRetold (life m) m.recovered o
        is_of among = all_at (IsRetold (life m) m.recovered) (telling.words (life m) m.recovered) o (words_retold (life m) m.recovered) among

        by : IsRetold (life m) m.recovered o → (o.word ≡ words.Phase phase_words.Commit) ⊎ HasAnsweredCommit v o.to
        by is = elim is.waits [
          | inl commit ↦ inl commit
          | inr forget ↦ inr (subst (HasAnsweredCommit v) (sym is.to)
              (due_answered is.party
              (all_at (IsDueOr (HasAnsweredCommit v)) is.held.parties is.party (all_at (AreDueOr (HasAnsweredCommit v)) m.recovered is.held (held place m up_then) is.among) is.one)
              forget))
        ]

    pub retold_step : RetoldAnswered v
    retold_step nth place o word again = elim (come nth place o word) [
      | inl old ↦ elim (retold nth place o old again) [ inl commit ↦ inl commit | inr is ↦ inr (answered_on w v on o.to is) ]
      | inr new ↦ by_comes place o again new
    ]
