-- The words of the records that a node tells again go out, one after another.
use Rattle.std.proofs.Common.{◌≡◌, ◌⊎◌, inl, inr, ℕ, Bool, true, false, IsTrue, List, [], ◌∷◌, ◌++◌, map, Any, Contains, Option, Some, None, refl, sym, ap, subst, ◌∙◌, append-nil, append_assoc, arith}
use Rattle.std.specs.List.{AllByRecursion, filter_map, list_any, cons_option}
use Rattle.std.specs.Option.{option_and_then}
use Rattle.std.proofs.lemmas.List.Elements.{Contains-append_cases, Contains-append_right}
use Rattle.std.proofs.lemmas.List.Folds.{list_any-from_Any}
use Rattle.std.proofs.lemmas.Slice.Eq.{bytes_eq-Decides}
use Rattle.ots_model.specs.declared.completion.CallNumber.{CallNumber}
use Rattle.ots_model.specs.declared.service.RetryKey.{RetryKey}
use Rattle.ots_model.specs.declared.tree.Outward.{Outward}
use Rattle.ots_model.specs.declared.completion.Word.TheVariants as phase_words
use Rattle.ots_model.specs.declared.tree.Word.TheVariants as words
use Rattle.decision_journal.specs.Journal.{first_gate}
use Rattle.decision_journal.specs.declared.journal.Standing.{Standing}
use Rattle.decision_journal.specs.declared.record.JournalRecord.{JournalRecord}
use Rattle.decision_journal.specs.declared.record.JournalRecord.TheVariants.{Life, Decision, Done, Prepared, CellsPrepared, CellsOutcome, CellsOnePhase}
use Rattle.decision_journal.specs.declared.record.Registration.{Registration}
use Rattle.recovery_coord.specs.Held.{is_decided}
use Rattle.recovery_coord.specs.Laws.{registrations_of}
use Rattle.recovery_coord.specs.Limits.{retold_slot}
use Rattle.recovery_coord.specs.Telling as telling
use Rattle.recovery_coord.specs.declared.held.Due.{Due}
use Rattle.recovery_coord.specs.declared.held.Due.TheVariants as due
use Rattle.recovery_coord.specs.declared.held.Held.{Held}
use Rattle.recovery_coord.specs.declared.held.Party.{Party}
use Rattle.coordinator.specs.Node.{Node, life}
use Rattle.nodes_world.specs.Agreement.{FollowsDisk, is_registration_of, records_at}
use Rattle.nodes_world.specs.AgreementInside.{Known, IsHeldAs, IsNamedBy, is_prepared, phase_of, placed}
use Rattle.nodes_world.specs.Journals.{records_on}
use Rattle.nodes_world.specs.Objects.{service_at}
use Rattle.nodes_world.specs.Happenings.{requests, requests_all}
use Rattle.nodes_world.specs.Told.{Told, known}
use Rattle.nodes_world.specs.World.{World, Seat, node_at}
use Rattle.nodes_world.proofs.Deeds.{NodeIsUp, node_is_up}
use Rattle.nodes_world.proofs.KnownLines.{among_turned}
use Rattle.nodes_world.proofs.KnownRequests.{MayGo, requests_known}
use Rattle.nodes_world.proofs.CanRetell.{retold_may_go}
use Rattle.nodes_world.proofs.HeldLines.{placed_once}
use Rattle.nodes_world.proofs.LoadedNodes.{one_of, placed_record}
use Rattle.nodes_world.proofs.SoundNodes.{any_among}

-- ---- whom a record is held to

-- it goes to one whom a record that is held names, under its number
pub record IsRetold (in_life : ℕ) (records : List Held) (o : Outward) : Type 0 where
  pub held : Held
  pub among : Contains records held
  pub party : Party
  pub one : Contains held.parties party
  pub of_life : o.number.life ≡ in_life
  pub slot : o.number.slot ≡ retold_slot
  pub place : o.number.generation ≡ held.place
  pub index : o.number.serial ≡ party.index
  pub to : o.to ≡ party.to
  pub word : (o.word ≡ words.Phase phase_words.Commit) ⊎ (phase_of o.word ≡ None)
  -- commit, where nothing was heard of it yet
  pub waits : (o.word ≡ words.Phase phase_words.Commit) ⊎ (party.due ≡ due.Forget)

all_append : {A : Type 0} (P : A → Type 0) (xs ys : List A) → AllByRecursion P xs → AllByRecursion P ys → AllByRecursion P (xs ++ ys)
all_append P [] ys all also = also
all_append P (x ∷ xs) ys (one, all) also = (one, all_append P xs ys all also)

word_of : (in_life : ℕ) (records : List Held) (h : Held) (p : Party) (decided : Bool) (d : Due) → p.due ≡ d → Contains records h → Contains h.parties p
    → (o : Outward) → telling.word_by in_life h.place decided p d ≡ Some o → IsRetold in_life records o
word_of in_life records h p decided due.Commit waits among one o is =
    subst (IsRetold in_life records) (inner is)
    (record { held = h; among = among; party = p; one = one; of_life = refl; slot = refl; place = refl; index = refl; to = refl; word = inl refl; waits = inl refl })
  where
    inner : {x y : Outward} → Some x ≡ Some y → x ≡ y
    inner e = cc
word_of in_life records h p true due.Forget waits among one o is =
    subst (IsRetold in_life records) (inner is)
    (record { held = h; among = among; party = p; one = one; of_life = refl; slot = refl; place = refl; index = refl; to = refl; word = inr refl; waits = inr waits })
  where
    inner : {x y : Outward} → Some x ≡ Some y → x ≡ y
    inner e = cc
word_of in_life records h p false due.Forget waits among one o is = absurd cc
word_of in_life records h p decided due.Nothing waits among one o is = absurd cc

party_words : (in_life : ℕ) (records : List Held) (h : Held) (ps : List Party) → Contains records h → ((p : Party) → Contains ps p → Contains h.parties p)
    → AllByRecursion (IsRetold in_life records) (filter_map (telling.word_to in_life h.place (is_decided h.kind)) ps)
party_words in_life records h [] among each = tt
party_words in_life records h (p ∷ ps) among each =
    by (telling.word_to in_life h.place (is_decided h.kind) p) (word_of in_life records h p (is_decided h.kind) p.due refl among (each p (0, omega arith, refl)))
    (party_words in_life records h ps among (λ q c. each q (Contains-append_right (p ∷ []) ps q c)))
  where
    by : (x : Option Outward) → ((o : Outward) → x ≡ Some o → IsRetold in_life records o)
        → AllByRecursion (IsRetold in_life records) (filter_map (telling.word_to in_life h.place (is_decided h.kind)) ps)
        → AllByRecursion (IsRetold in_life records) (cons_option x (filter_map (telling.word_to in_life h.place (is_decided h.kind)) ps))
    by (Some o) is others = (is o refl, others)
    by None is others = others

held_words : (in_life : ℕ) (records some : List Held) → ((h : Held) → Contains some h → Contains records h)
    → AllByRecursion (IsRetold in_life records) (telling.words in_life some)
held_words in_life records [] each = tt
held_words in_life records (h ∷ others) each =
    all_append (IsRetold in_life records) (telling.words_of in_life h) (telling.words in_life others)
    (party_words in_life records h h.parties (each h (0, omega arith, refl)) (λ p c. c))
    (held_words in_life records others (λ x c. each x (Contains-append_right (h ∷ []) others x c)))

-- so does each word that is told again
pub words_retold : (in_life : ℕ) (records : List Held) → AllByRecursion (IsRetold in_life records) (telling.words in_life records)
words_retold in_life records = held_words in_life records records (λ h c. c)

-- ---- whom the record names

-- a party is a registration of the record
pub registration_of : (ps : List Party) (regs : List Registration) (p : Party) → map (λ (x : Party). x.index) ps ≡ map (λ (r : Registration). r.index) regs
    → map (λ (x : Party). x.to) ps ≡ map (λ (r : Registration). r.reference) regs → Contains ps p
    → (r : Registration) × Contains regs r × (r.index ≡ p.index) × (r.reference ≡ p.to)
registration_of [] regs p numbers tos (i, less, is) = absurd (omega (arith, less))
registration_of (q ∷ ps) [] p numbers tos c = absurd cc
registration_of (q ∷ ps) (r ∷ regs) p numbers tos c = elim (Contains-append_cases (q ∷ []) ps p c) [
  | inl first ↦
      let same = one_of q p first in (
        r,
        (0, omega arith, refl),
        sym (head_of _ _ _ _ numbers) ∙ ap (λ (x : Party). x.index) same,
        sym (head_of _ _ _ _ tos) ∙ ap (λ (x : Party). x.to) same,
      )
  | inr later ↦
      let at = registration_of ps regs p (tail_of _ _ _ _ numbers) (tail_of _ _ _ _ tos) later in
      (at.0, Contains-append_right (r ∷ []) regs at.0 at.1, at.2, at.3)
]
  where
    head_of : {A : Type 0} (a b : A) (xs ys : List A) → a ∷ xs ≡ b ∷ ys → a ≡ b
    head_of a b xs ys e = cc

    tail_of : {A : Type 0} (a b : A) (xs ys : List A) → a ∷ xs ≡ b ∷ ys → xs ≡ ys
    tail_of a b xs ys e = cc

-- where a record names somebody, it is a decision, or that of a tree with a superior
pub record IsDecision (item : JournalRecord) : Type 0 where
  pub of_life : ℕ
  pub slot : ℕ
  pub generation : ℕ
  pub retry : Option RetryKey
  pub asked : Bool
  pub is : item ≡ Decision of_life slot generation retry asked (registrations_of item)

pub decision_of : (item : JournalRecord) (r : Registration) → is_prepared item ≡ false → Contains (registrations_of item) r → IsDecision item
decision_of (Life l) r own (i, less, at) = absurd (omega (arith, less))
decision_of (Decision l slot generation retry asked regs) r own c =
    record { of_life = l; slot = slot; generation = generation; retry = retry; asked = asked; is = refl }
decision_of (Done named) r own (i, less, at) = absurd (omega (arith, less))
decision_of (Prepared l slot generation recovery regs) r own c = absurd cc
decision_of (CellsPrepared l number recovery ps) r own (i, less, at) = absurd (omega (arith, less))
decision_of (CellsOutcome named how) r own (i, less, at) = absurd (omega (arith, less))
decision_of (CellsOnePhase l number ps) r own (i, less, at) = absurd (omega (arith, less))

-- ---- they go out

-- such a word may go out
module _ (w : World) (told : List Told) (k : Known w told) (place : ℕ) (m : Node) (up : node_at w place ≡ Some m) (o : Outward) (is : IsRetold (life m) m.recovered o) where
  at : NodeIsUp w place m
  at = node_is_up w place m up

  follows : FollowsDisk place at.seat m
  follows = k.disks.follows place at.seat m at.there at.up

  held : records_at w place ≡ Some follows.records
  held = ap (λ (x : Option Seat). option_and_then (λ (s : Seat). records_on (service_at place) s.disk) x) at.there ∙ follows.held

  old : IsHeldAs w told place follows.records is.held
  old = (k.nodes place m up).held follows.records is.held held is.among

  among : Contains follows.records old.stood.item
  among = placed_record first_gate follows.records old.stood old.there

  module _ (r : Registration) (named : Contains (registrations_of old.stood.item) r) (index : r.index ≡ is.party.index) (reference : r.reference ≡ is.party.to)
      (d : IsDecision old.stood.item) where
    decision : Contains follows.records (Decision d.of_life d.slot d.generation d.retry d.asked (registrations_of old.stood.item))
    decision = subst (Contains follows.records) d.is among

    -- a word of its number goes to the same object
    one_object : (other : Outward) → Any (IsNamedBy other) (placed first_gate follows.records) → other.number ≡ o.number → other.to ≡ o.to
    one_object other (i, s, less, there, (at_place, (j, q, within, here, (q_index, q_reference)))) same =
        let number = ap (λ (x : CallNumber). x.generation) same ∙ is.place ∙ sym old.same_place in
        let one : s ≡ old.stood = placed_once first_gate follows.records s old.stood (i, less, there) old.there (at_place ∙ number) in
        let own : Contains (registrations_of old.stood.item) q = subst (λ (x : Standing). Contains (registrations_of x.item) q) one (j, within, here) in
        let rests = k.records place d.of_life d.slot d.generation d.retry d.asked (registrations_of old.stood.item) follows.records held decision in
        let serial = ap (λ (x : CallNumber). x.serial) same ∙ is.index in
        sym q_reference ∙ rests.once q r own named (q_index ∙ serial ∙ sym index) ∙ reference ∙ sym is.to

    by_record : Any (IsNamedBy o) (placed first_gate follows.records)
    by_record = any_among (IsNamedBy o) (placed first_gate follows.records) old.stood old.there (
      old.same_place ∙ sym is.place,
      any_among (λ (q : Registration). (q.index ≡ o.number.serial) × (q.reference ≡ o.to)) (registrations_of old.stood.item) r named
          (index ∙ sym is.index, reference ∙ sym is.to),
    )

    is_named : IsTrue (list_any (is_registration_of o.to) (registrations_of old.stood.item))
    is_named = list_any-from_Any (is_registration_of o.to) (registrations_of old.stood.item)
        (named.0, r, named.1, named.2, (bytes_eq-Decides r.reference o.to).1 (reference ∙ sym is.to))

    goes : MayGo w told place o
    goes =
        let line = old.line d.of_life d.slot d.generation d.retry d.asked (registrations_of old.stood.item) d.is in
        retold_may_go w told k place follows.records held d.of_life d.slot d.generation d.retry d.asked (registrations_of old.stood.item) decision o is_named is.word
        line.0 line.1 (among_turned (known told) _ line.2) at.seat m at.there at.up is.of_life is.slot by_record
        (λ other sent same. one_object other
        (k.words.told_again place other follows.records sent (ap (λ (x : CallNumber). x.slot) same ∙ is.slot) held) same)

  pub retold_goes : MayGo w told place o
  retold_goes =
      let r = registration_of is.held.parties (registrations_of old.stood.item) is.party old.numbers old.references is.one in
      goes r.0 r.1 r.2 r.3 (decision_of old.stood.item r.0 (k.disks.no_superior place follows.records old.stood.item held among) r.1)

node_still : (place : ℕ) (o : Outward) (w : World) (m : Node) → node_at w place ≡ Some m → node_at (requests place o w).world place ≡ Some m
unfolding requests node_at
node_still place o w m up = up

-- and all of them do
pub retold_known : (some : List Outward) (w : World) (told : List Told) → Known w told → (place : ℕ) (m : Node) → node_at w place ≡ Some m
    → AllByRecursion (IsRetold (life m) m.recovered) some → Known (requests_all place some w).world (told ++ (requests_all place some w).lines)
retold_known [] w told k place m up all = subst (Known w) (sym (append-nil told)) k
retold_known (o ∷ others) w told k place m up all =
    let first = requests_known w told k place o (retold_goes w told k place m up o all.0) in
    let after = retold_known others (requests place o w).world (told ++ (requests place o w).lines) first place m (node_still place o w m up) all.1 in
    subst (Known (requests_all place others (requests place o w).world).world)
    (append_assoc told (requests place o w).lines (requests_all place others (requests place o w).world).lines) after
