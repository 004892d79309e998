-- Whom a node needn't tell its record again, that one has answered commit; so has each one to which another word is told again.
use Rattle.std.proofs.Common.{◌≡◌, ◌⊎◌, false, inl, inr, ℕ, ◌+◌, List, Contains, Some, refl, sym, ap, subst, ◌∙◌}
use Rattle.std.specs.List.{AllByRecursion, Any}
use Rattle.ots_model.specs.declared.completion.CallNumber.{CallNumber}
use Rattle.ots_model.specs.declared.tree.Heard.{Heard}
use Rattle.ots_model.specs.declared.tree.Outward.{Outward}
use Rattle.ots_model.specs.declared.completion.Word.TheVariants as phase_words
use Rattle.ots_model.specs.declared.tree.Word.TheVariants as words
use Rattle.decision_journal.specs.Journal.{first_gate}
use Rattle.decision_journal.specs.declared.journal.Standing.{Standing}
use Rattle.decision_journal.specs.declared.record.JournalRecord.{JournalRecord}
use Rattle.decision_journal.specs.declared.record.Registration.{Registration as Named}
use Rattle.recovery_coord.specs.Laws.{registrations_of}
use Rattle.recovery_coord.specs.Limits.{retold_slot}
use Rattle.recovery_coord.specs.declared.held.Held.{Held}
use Rattle.recovery_coord.specs.declared.held.Party.{Party}
use Rattle.coordinator.specs.declared.event.Act.TheVariants as acts
use Rattle.coordinator.specs.declared.said.Said.{Said}
use Rattle.coordinator.specs.Family.{Family}
use Rattle.coordinator.specs.Node.{Node, load}
use Rattle.coordinator.specs.NodeCalls.{RetoldAnswer, retold_answer}
use Rattle.coordinator.specs.NodeSlots.{creates, left_record}
use Rattle.coordinator.specs.NodeTick.{ticks}
use Rattle.nodes_world.specs.declared.message.Content.{Content}
use Rattle.nodes_world.specs.declared.message.Content.TheVariants as contents
use Rattle.nodes_world.specs.Agreement.{IsWord, records_at}
use Rattle.nodes_world.specs.AgreementInside.{IsHeldAs, IsNamedBy, Known, is_prepared, placed}
use Rattle.nodes_world.specs.Deliveries.{answer_event}
use Rattle.nodes_world.specs.Objects.{family_key}
use Rattle.nodes_world.specs.Told.{Told}
use Rattle.nodes_world.specs.World.{World, node_at}
use Rattle.nodes_world.proofs.AnsweredCommits.{HasAnsweredCommit, answered_on}
use Rattle.nodes_world.proofs.DuesHeard.{AreDueOr, IsDueOr, all_each, applied_due, load_due, made_due, none_retold, retold_is, ticked_due}
use Rattle.nodes_world.proofs.HeldLines.{placed_once}
use Rattle.nodes_world.proofs.LeftParties.{follows, held_records, left_parties, stands_bare}
use Rattle.nodes_world.proofs.LoadedNodes.{placed_record}
use Rattle.nodes_world.proofs.MessagesGo.{HasContent}
use Rattle.nodes_world.proofs.NamedParties.{RecordsNameParties}
use Rattle.nodes_world.proofs.NodesGo.{Becomes, NodesGo, called, heard_so, loaded_so, made, ticked}
use Rattle.nodes_world.proofs.RetoldWords.{decision_of, registration_of}
use Rattle.nodes_world.proofs.SoundNodes.{all_of}
use Rattle.nodes_world.proofs.ToldReplied.{ToldReplied}

abbrev pub HeldAnswered : World → Type 0
HeldAnswered w = (place : ℕ) (n : Node) → node_at w place ≡ Some n → AllByRecursion (AreDueOr (HasAnsweredCommit w)) n.recovered

abbrev pub RetoldAnswered : World → Type 0
RetoldAnswered w = (nth place : ℕ) (o : Outward) → IsWord w nth place o → o.number.slot ≡ retold_slot → (o.word ≡ words.Phase phase_words.Commit) ⊎ HasAnsweredCommit w o.to

-- ---- to whom a word was told again

module _ (w : World) (told : List Told) (k : Known w told) (place : ℕ) (n : Node) (up : node_at w place ≡ Some n) (nth : ℕ) (o : Outward) (word : IsWord w nth place o)
    (again : o.number.slot ≡ retold_slot) (h : Held) (among : Contains n.recovered h) (of_record : h.place ≡ o.number.generation)
    (p : Party) (one : Contains h.parties p) (number : p.index ≡ o.number.serial) where
  abbrev rs : List JournalRecord
  rs = (follows w told k place n up).records

  held : records_at w place ≡ Some rs
  held = held_records w told k place n up

  old : IsHeldAs w told place rs h
  old = (k.nodes place n up).held rs h held among

  -- the party of the record with its number is that of its object
  pub same_object : o.to ≡ p.to
  same_object = by (k.words.told_again place o rs (nth, word) again held)
    where
      r : (x : Named) × Contains (registrations_of old.stood.item) x × (x.index ≡ p.index) × (x.reference ≡ p.to)
      r = registration_of h.parties (registrations_of old.stood.item) p old.numbers old.references one

      recorded : Contains rs old.stood.item
      recorded = placed_record first_gate rs old.stood old.there

      by : Any (IsNamedBy o) (placed first_gate rs) → o.to ≡ p.to
      by (i, s, less, there, (at_place, (j, q, within, here, (q_index, q_reference)))) =
          let same : s ≡ old.stood = placed_once first_gate rs s old.stood (i, less, there) old.there (at_place ∙ sym of_record ∙ sym old.same_place) in
          let own : Contains (registrations_of old.stood.item) q = subst (λ (x : Standing). Contains (registrations_of x.item) q) same (j, within, here) in
          let d = decision_of old.stood.item r.0 (k.disks.no_superior place rs old.stood.item held recorded) r.1 in
          let rests = k.records place d.of_life d.slot d.generation d.retry d.asked (registrations_of old.stood.item) rs held (subst (Contains rs) d.is recorded) in
          sym q_reference ∙ rests.once q r.0 own r.1 (q_index ∙ sym number ∙ sym r.2) ∙ r.3

-- ---- a step

-- what a family leaves in a node whose time has passed
left_then : (now : ℕ) (n : Node) (f : Family) (s : Standing) → left_record n.found f ≡ Some s → left_record (ticks now n).node.found f ≡ Some s
unfolding ticks
left_then now n f s left = left

module _ (w : World) (told : List Told) (k : Known w told) (replied : ToldReplied w) (named : RecordsNameParties w) (held : HeldAnswered w) (retold : RetoldAnswered w) where
  -- the object of a word that was told again has answered commit, once it has answered
  word_answered : (nth place reply : ℕ) (o : Outward) (answer : Said) → IsWord w nth place o → o.number.slot ≡ retold_slot
      → HasContent w reply (contents.Reply (nth + 1) answer) → HasAnsweredCommit w o.to
  word_answered nth place reply o answer word again content = elim (retold nth place o word again) [
    | inl commit ↦ record {
      nth = nth;
      place = place;
      reply = reply;
      word = o;
      answer = answer;
      sent = word;
      own = refl;
      commit = commit;
      replied = content;
    }
    | inr before ↦ before
  ]

  -- so has the party of a record that is held that has its number
  pub party_answered : (place : ℕ) (n : Node) → node_at w place ≡ Some n → (nth reply : ℕ) (o : Outward) (answer : Said) → IsWord w nth place o → o.number.slot ≡ retold_slot
      → HasContent w reply (contents.Reply (nth + 1) answer) → (h : Held) → Contains n.recovered h → h.place ≡ o.number.generation → (p : Party) → Contains h.parties p
      → p.index ≡ o.number.serial → HasAnsweredCommit w p.to
  party_answered place n up nth reply o answer word again content h among of_record p one number =
      subst (HasAnsweredCommit w) (same_object w told k place n up nth o word again h among of_record p one number)
      (word_answered nth place reply o answer word again content)

  -- what is held once an answer was heard
  module _ (place : ℕ) (n : Node) (up : node_at w place ≡ Some n) (nth reply now : ℕ) (o : Outward) (answer : Said) (word : IsWord w nth place o)
      (content : HasContent w reply (contents.Reply (nth + 1) answer)) where
    heard_in_record : (a : RetoldAnswer) → retold_answer (answer_event o answer now).act ≡ Some a → (h : Held) → Contains n.recovered h → h.place ≡ a.number.generation
        → (p : Party) → Contains h.parties p → p.index ≡ a.number.serial → HasAnsweredCommit w p.to
    heard_in_record a is h among of_record p one number =
        party_answered place n up nth reply o answer word (ap (λ (x : CallNumber). x.slot) same ∙ at.1) content h among (of_record ∙ ap (λ (x : CallNumber). x.generation) (sym same)) p one
        (number ∙ ap (λ (x : CallNumber). x.serial) (sym same))
      where
        at : ((answer_event o answer now).act ≡ acts.Answer a.number a.heard) × (a.number.slot ≡ retold_slot)
        at = retold_is (answer_event o answer now).act a is

        same : o.number ≡ a.number
        same = number_of at.0
          where
            number_of : {x y : CallNumber} {g i : Heard} → acts.Answer x g ≡ acts.Answer y i → x ≡ y
            number_of e = cc

  module _ (v : World) (later : List Told) (known_then : Known v later) (on : (nth : ℕ) (content : Content) → HasContent w nth content → HasContent v nth content)
      (replied_then : ToldReplied v) (named_then : RecordsNameParties v) where
    abbrev Kept : List Held → Type 0
    Kept hs = AllByRecursion (AreDueOr (HasAnsweredCommit v)) hs

    due_on : (p : Party) → IsDueOr (HasAnsweredCommit w) p → IsDueOr (HasAnsweredCommit v) p
    due_on p (inl waits) = inl waits
    due_on p (inr is) = inr (answered_on w v on p.to is)

    kept_on : (hs : List Held) → AllByRecursion (AreDueOr (HasAnsweredCommit w)) hs → Kept hs
    kept_on hs all =
        all_each (AreDueOr (HasAnsweredCommit w)) (AreDueOr (HasAnsweredCommit v)) hs
        (λ h. all_each (IsDueOr (HasAnsweredCommit w)) (IsDueOr (HasAnsweredCommit v)) h.parties due_on) all

    becomes_answered : (place : ℕ) (m : Node) → Becomes w place m → node_at v place ≡ Some m → Kept m.recovered
    becomes_answered place _ (loaded_so service rs) up =
        load_due (HasAnsweredCommit v) service rs
        (all_of (λ (s : Standing). is_prepared s.item ≡ false) (load service rs).found.standing (stands_bare v later known_then place (load service rs) up))
    becomes_answered place _ (made now seconds n was) up =
        kept_on (creates now seconds n).node.recovered
        (made_due (HasAnsweredCommit w) now seconds n (λ slot f s there left. left_parties w told k replied named place n was slot f there s left) (held place n was))
    becomes_answered place _ (called key e stood n was never) up =
        kept_on _ (applied_due (HasAnsweredCommit w) key e stood n (λ a is. absurd (none_retold e.act never a is)) (held place n was))
    becomes_answered place _ (heard_so nth reply now o answer stood n was word content) up =
        kept_on _ (applied_due (HasAnsweredCommit w) (family_key place o.number) (answer_event o answer now) stood n
        (heard_in_record place n was nth reply now o answer word content) (held place n was))
    becomes_answered place _ (ticked now n was) up =
        ticked_due (HasAnsweredCommit v) now n (λ slot f s there left. left_parties v later known_then replied_then named_then place (ticks now n).node up slot f there s (left_then now n f s left))
        (kept_on n.recovered (held place n was))

    pub held_step : NodesGo w v → HeldAnswered v
    held_step nodes place m up = elim (nodes place m up) [
      | inl old ↦ kept_on m.recovered (held place m old)
      | inr new ↦ becomes_answered place m new up
    ]
