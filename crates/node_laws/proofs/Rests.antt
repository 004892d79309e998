-- Each commit word that a family hands out rests on its own decision, which stands; and each word that is told again on that of its record.
use Rattle.std.proofs.Common.{◌≡◌, ◌≢◌, ◌&&◌, inl, inr, ℕ, ◌+◌, ◌<◌, zero, suc, List, [], ◌∷◌, length, Bool, true, false, if◌then◌else◌, Option, Some, None, is_some, is_none, Contains, refl, ap, sym, subst, ◌∙◌, arith}
use Rattle.std.specs.Prelude.{slice_set}
use Rattle.std.specs.List.{AllByRecursion, filter_map, cons_option, list_all}
use Rattle.std.proofs.lemmas.Option.{slice_get_within, get_or_from_slice_get}
use Rattle.ior_refs.specs.declared.key.ObjectKey.{ObjectKey}
use Rattle.ots_model.specs.declared.completion.CallNumber.{CallNumber}
use Rattle.ots_model.specs.declared.completion.Receipt.{Receipt}
use Rattle.ots_model.specs.declared.completion.Stood.{Stood}
use Rattle.ots_model.specs.declared.completion.Heard.TheVariants.{Voted}
use Rattle.ots_model.specs.declared.completion.Vote.TheVariants.{VoteCommit}
use Rattle.ots_model.specs.declared.service.RetryKey.{RetryKey}
use Rattle.ots_model.specs.declared.tree.Outward.{Outward}
use Rattle.ots_model.specs.declared.tree.Word.{Word}
use Rattle.ots_model.specs.declared.completion.Word.TheVariants as phase_words
use Rattle.ots_model.specs.declared.tree.Word.TheVariants as words
use Rattle.txn_tree.specs.Rows.{is_live_branch}
use Rattle.txn_tree.specs.declared.row.Row.{Row}
use Rattle.two_phase.specs.Course as course
use Rattle.two_phase.specs.Course.{Course}
use Rattle.two_phase.specs.LawsOfCourses.{GoesRightly, MayBeTold, RestsOn, TreeWordsGoRightly}
use Rattle.two_phase.specs.Stages as stages
use Rattle.two_phase.specs.Stages.{Standing as Completion, Going as UnderWay}
use Rattle.two_phase.specs.declared.party.Party.{Party as Participant}
use Rattle.decision_journal.specs.declared.journal.Standing.{Standing}
use Rattle.decision_journal.specs.declared.record.JournalRecord.{JournalRecord}
use Rattle.decision_journal.specs.declared.record.JournalRecord.TheVariants.{Life, Decision, Done, Prepared, CellsPrepared, CellsOutcome, CellsOnePhase}
use Rattle.decision_journal.specs.declared.record.Registration.{Registration}
use Rattle.recovery_coord.specs.Held.{is_decided}
use Rattle.recovery_coord.specs.Telling as telling
use Rattle.recovery_coord.specs.declared.held.Due.{Due}
use Rattle.recovery_coord.specs.declared.held.Due.TheVariants as due
use Rattle.recovery_coord.specs.declared.held.Held.{Held}
use Rattle.recovery_coord.specs.declared.held.Party.{Party}
use Rattle.coordinator.specs.declared.event.Event.{Event}
use Rattle.coordinator.specs.declared.said.Said.TheVariants as said
use Rattle.coordinator.specs.Family.{Call, Family}
use Rattle.coordinator.specs.History.{has_room}
use Rattle.coordinator.specs.Laws.{FamiliesStepRightly, GoesOut, IsOfCompletion, IsOfSubtransaction}
use Rattle.coordinator.specs.Node.{Node, family_in, life}
use Rattle.coordinator.specs.NodeCalls.{applies, call_wants, steps_to}
use Rattle.coordinator.specs.NodeTick.{Happening, happening, happens_in, happens_to, passes_time, tells_again, tick_at, tick_of, ticked, ticks}
use Rattle.coordinator.specs.Step.{Wanted, family_step, is_ended, is_finished, is_silent, quiet}
use Rattle.family_laws.specs.LawsOfSteps.{FamiliesStaySound}
use Rattle.family_laws.specs.LawsOfTelling.{AreNumberedFrom, FamiliesNumberWords}
use Rattle.family_laws.specs.OwnDecisions.{HasDecision}
use Rattle.family_laws.specs.Sound.{IsSoundFamily}
use Rattle.family_laws.specs.SoundNode.{IsDecisionOf}
use Rattle.node_laws.specs.Commits.{CommitRests, CommitsRest, GoesByDecision, IsOfStanding, RestsOnOwn}
use Rattle.node_laws.specs.Rules.{HasToldAll, IsOfRecord, IsToldOf, KeepsRules, NamesVoters, NamesVotersOf, NodesKeepRules, TellsStanding, named_as}
use Rattle.node_laws.proofs.Families.{voters_named}
use Rattle.node_laws.proofs.Lists.{all_at, all_each, all_joined, behind_one, inner}
use Rattle.node_laws.proofs.Rules.{now_there}
use Rattle.node_laws.proofs.Sending.{CommitCalls, HasCall, step_sends}
use Rattle.node_laws.proofs.Slots.{family_ticked}
use Rattle.node_laws.proofs.Stands.{Called, called_is}
use Rattle.node_laws.proofs.Stands.Called.{by_answer, by_nothing, by_step}

-- ---- the numbers of words

-- a word is numbered by this key
pub record IsKeyed (key : ObjectKey) (o : Outward) : Type 0 where
  pub same_life : key.life ≡ o.number.life
  pub same_slot : key.slot ≡ o.number.slot
  pub same_number : key.generation ≡ o.number.generation

pub keyed_all : (key : ObjectKey) (serial : ℕ) (some : List Outward) → AreNumberedFrom key serial some → AllByRecursion (IsKeyed key) some
keyed_all key serial [] h = tt
keyed_all key serial (o ∷ some) h = (
  record {
    same_life = sym (ap (λ (n : CallNumber). n.life) h.0);
    same_slot = sym (ap (λ (n : CallNumber). n.slot) h.0);
    same_number = sym (ap (λ (n : CallNumber). n.generation) h.0);
  },
  keyed_all key (serial + 1) some h.1,
)

-- ---- a commit word is one of the completion

of_completion : (s : Completion) (o : Outward) → o.word ≡ words.Phase phase_words.Commit → GoesOut s o → IsOfCompletion s o
of_completion s o commit (inl x) = x
of_completion s o commit (inr (sub, none)) = absurd (subst IsOfSubtransaction commit sub)

-- what it rests on in the completion that it leaves
record IsCommitted (c : Course) (o : Outward) : Type 0 where
  party : Participant
  there : Contains c.parties party
  registration : o.registration ≡ party.index
  reference : o.to ≡ party.to
  may : MayBeTold party c
  placed : o.receipt ≡ Some (record { place = may.place; registration = party.index })

receipt_is : (w : Word) (place : Option ℕ) (index p : ℕ) → w ≡ words.Phase phase_words.Commit → place ≡ Some p → course.receipt_of w place index ≡ Some (record { place = p; registration = index })
receipt_is w place index p e i = rw (e, i) refl

committed : TreeWordsGoRightly → (s : Completion) (o : Outward) → o.word ≡ words.Phase phase_words.Commit → (x : IsOfCompletion s o) → IsCommitted x.before o
committed law s o commit x =
    let r : GoesRightly x.word x.before = law x.before x.word x.next in
    let word_is : x.word.word ≡ (words.Phase phase_words.Commit) = sym x.same_word ∙ commit in
    let may : MayBeTold r.party x.before = subst (λ (w : Word). RestsOn w r.place r.party x.before) word_is r.rests in
    record {
      party = r.party;
      there = (r.place, slice_get_within x.before.parties r.place r.party r.there, get_or_from_slice_get x.before.parties r.place r.party r.party r.there);
      registration = x.same_registration ∙ r.registration;
      reference = x.same_reference ∙ r.reference;
      may = may;
      placed = x.same_receipt ∙ r.receipt ∙ receipt_is x.word.word (course.record_place x.before.stood x.before.reread) r.party.index may.place word_is may.stands;
    }

-- the word that goes out changes neither the participants nor where the record stands
next_parties : (c : Course) → (course.after_next c).parties ≡ c.parties
next_parties c = go (is_some c.out)
  where
    go : (t : Bool) → (if t then c else record c { out = course.errand c }).parties ≡ c.parties
    go true = refl
    go false = refl

next_place : (c : Course) → (let d = course.after_next c in course.record_place d.stood d.reread ≡ course.record_place c.stood c.reread)
next_place c = go (is_some c.out)
  where
    go : (t : Bool) → (let d = if t then c else record c { out = course.errand c } in course.record_place d.stood d.reread ≡ course.record_place c.stood c.reread)
    go true = refl
    go false = refl

-- ---- its family goes on

abbrev WasTold : Participant → Type 0
WasTold q = q.ballot ≡ Some (Voted VoteCommit) → q.told ≢ None

abbrev IsNamedIn : List Registration → Participant → Type 0
IsNamedIn named q = q.ballot ≡ Some (Voted VoteCommit) → Contains named (named_as q.index q.to)

not_told : (c : Course) (p : Participant) → Contains c.parties p → MayBeTold p c → HasToldAll (UnderWay (course.after_next c)) → ⊥
not_told c p there may (fixed, is, told) =
    all_at WasTold c.parties p (subst (λ (ps : List Participant). AllByRecursion WasTold ps) (next_parties c) told) there may.voted may.untold

no_rows : (rs : List Row) → is_live_branch rs 0 ≡ true → 0 < length rs
no_rows [] e = absurd (cc e)
no_rows (r ∷ rs) e = omega arith

-- a family with a call of its top-level transaction isn't finished
going : (g : Family) → IsSoundFamily g → HasCall g → is_finished g ≡ false
unfolding is_finished
going g sound (c, cs, is) = go cs is
  where
    some_rows : 0 < length g.rows
    some_rows = no_rows g.rows sound.lists.top

    not_both : (a b : Bool) → b ≡ false → (a && b) ≡ false
    not_both true b e = e
    not_both false b e = refl

    go : (cs : List (Option Call)) → g.calls ≡ slice_set cs 0 (Some c) → (is_ended g.stage && list_all is_none g.calls) ≡ false
    go [] i = let l = some_rows in let m = sound.as_many in let k = ap (λ (xs : List (Option Call)). length xs) i in absurd (omega (arith, l, m, k))
    go (x ∷ cs) i = not_both (is_ended g.stage) (list_all is_none g.calls) (ap (λ (xs : List (Option Call)). list_all is_none xs) i)

-- ---- the decision that stands

names_it : (r : JournalRecord) (g : Family) (standing : List Standing) (place : ℕ) (o : Outward) (c : Course) → (x : IsCommitted c o) → place ≡ x.may.place → IsKeyed g.key o → IsDecisionOf g r
    → Contains standing (record { place = place; item = r }) → NamesVotersOf r (UnderWay (course.after_next c)) → RestsOnOwn standing o
names_it (Decision l slot generation by asked named) g standing place o c x at key own there names = record {
  decision = record {
    place = place;
    of_life = l;
    slot = slot;
    generation = generation;
    by = by;
    asked = asked;
    named = named;
    stands = there;
    names = subst (λ (i : ℕ). Contains named (named_as i o.to)) (sym x.registration) (subst (λ (to : List ℕ). Contains named (named_as x.party.index to)) (sym x.reference)
        (all_at (IsNamedIn named) c.parties x.party (voters_named named c.parties (subst (λ (ps : List Participant). NamesVoters named ps) (next_parties c) names)) x.there x.may.voted));
  };
  receipt = x.placed ∙ ap (λ (p : ℕ). Some (record { place = p; registration = x.party.index })) (sym at)
      ∙ ap (λ (i : ℕ). Some (record { place = place; registration = i })) (sym x.registration);
  same_life = sym own.0 ∙ key.same_life;
  same_slot = sym own.1 ∙ key.same_slot;
  same_number = sym own.2 ∙ key.same_number;
}
names_it (Life l) g standing place o c x at key own there names = absurd own
names_it (Done named) g standing place o c x at key own there names = absurd own
names_it (Prepared l slot generation recovery named) g standing place o c x at key own there names = absurd own
names_it (CellsPrepared l number recovery puts) g standing place o c x at key own there names = absurd own
names_it (CellsOutcome named end) g standing place o c x at key own there names = absurd own
names_it (CellsOnePhase l number puts) g standing place o c x at key own there names = absurd own

pub record Laws : Type 0 where
  pub words : FamiliesNumberWords
  pub sound : FamiliesStaySound
  pub rightly : FamiliesStepRightly
  pub tree : TreeWordsGoRightly

-- one commit word of a family that a node has after the step which hands it out
rests_one : Laws → (edge : ℕ) (n : Node) (slot : ℕ) (g : Family) (o : Outward) → KeepsRules edge n → family_in n.families slot ≡ Some g → IsSoundFamily g → IsKeyed g.key o
    → GoesOut g.completion o → CommitCalls g o → o.word ≡ words.Phase phase_words.Commit → RestsOnOwn n.found.standing o
rests_one law edge n slot g o h there sound key out calls commit =
    let x : IsOfCompletion g.completion o = of_completion g.completion o commit out in
    let y : IsCommitted x.before o = committed law.tree g.completion o commit x in
    let at : stages.record_place g.completion ≡ Some y.may.place = ap (λ (s : Completion). stages.record_place s) x.now ∙ next_place x.before ∙ y.may.stands in
    let d : HasDecision n g y.may.place = h.decisions.unclosed slot y.may.place g there (record { decided = at; unasked = unasked x y g.closed refl; going = going g sound (calls commit) }) in
    let names : NamesVotersOf d.stood.item g.completion = h.named slot g d.stood there d.there (at ∙ ap (λ (p : ℕ). Some p) (sym d.at)) in
    names_it d.stood.item g n.found.standing d.stood.place o x.before y d.at key d.own d.there (subst (λ (s : Completion). NamesVotersOf d.stood.item s) x.now names)
  where
    unasked : (x : IsOfCompletion g.completion o) → IsCommitted x.before o → (c : Option Stood) → g.closed ≡ c → g.closed ≡ None
    unasked x y None e = e
    unasked x y (Some s) e =
        absurd (not_told x.before y.party y.there y.may (subst HasToldAll x.now (h.through slot g there (λ i. absurd (cc (sym e ∙ i))))))

-- those of a step
step_rests : Laws → (edge : ℕ) (n : Node) (slot : ℕ) (f : Family) (e : Event) (stood : Option Stood) → KeepsRules edge n → IsSoundFamily f
    → family_in n.families slot ≡ Some (family_step f e stood).family → AllByRecursion (CommitRests n.found.standing) (family_step f e stood).words
step_rests law edge n slot f e stood h sound there =
    let g : Family = (family_step f e stood).family in
    let some : List Outward = (family_step f e stood).words in
    all_each (CommitRests n.found.standing) some (λ o c commit.
    rests_one law edge n slot g o h there (law.sound.steps f e stood sound)
    (subst (λ (k : ObjectKey). IsKeyed k o) (sym (law.words.key f e stood)) (all_at (IsKeyed f.key) some o (keyed_all f.key f.serial some (law.words.numbers f e stood)) c))
    (all_at (GoesOut g.completion) some o (law.rightly f e stood).words c) (all_at (CommitCalls g) some o (step_sends f e stood).called c) commit)

called_rest : Laws → (edge more : ℕ) (n : Node) (k : ObjectKey) (e : Event) (stood : Option Stood) (w : Option Wanted) (later : Node) (some : List Outward) → Called n k e stood w later some
    → KeepsRules edge n → KeepsRules more later → AllByRecursion (CommitRests later.found.standing) some
called_rest law edge more n k e stood _ _ _ (by_step f there) h r =
    step_rests law more (steps_to n f e stood (family_step f e stood)).node k.slot f e stood r (h.decisions.sound.families k.slot f there).1
    (now_there law.words edge n h.decisions f e stood k.slot there)
called_rest law edge more n k e stood _ _ _ (by_answer number heard) h r = tt
called_rest law edge more n k e stood _ _ _ (by_nothing w other) h r = tt

-- ---- at a tick

-- what happens is of a family in its slot
pub happened_all : (Q : Happening → Type 0) (now : ℕ) (fs : List (Option Family)) → ((slot : ℕ) (f : Family) → family_in fs slot ≡ Some f → Q (happening f (tick_of now f)))
    → AllByRecursion Q (filter_map (happens_in now) fs)
happened_all Q now [] each = tt
happened_all Q now (o ∷ fs) each = by o (λ f i. each 0 f i) (happened_all Q now fs (λ slot f i. each (suc slot) f i))
  where
    put : (x : Option Happening) → ((h : Happening) → x ≡ Some h → Q h) → AllByRecursion Q (filter_map (happens_in now) fs) → AllByRecursion Q (cons_option x (filter_map (happens_in now) fs))
    put None one rest = rest
    put (Some h) one rest = (one h refl, rest)

    loud : (f : Family) → Q (happening f (tick_of now f)) → (t : Bool) (h : Happening) → (if t then None else Some (happening f (tick_of now f))) ≡ Some h → Q h
    loud f q true h e = absurd (cc e)
    loud f q false h e = subst Q (inner e) q

    by : (o : Option Family) → ((f : Family) → o ≡ Some f → Q (happening f (tick_of now f))) → AllByRecursion Q (filter_map (happens_in now) fs)
        → AllByRecursion Q (cons_option (happens_in now o) (filter_map (happens_in now) fs))
    by None one rest = rest
    by (Some f) one rest = put (happens_to now f) (λ h e. loud f (one f refl) (is_silent (tick_at now) f) h e) rest

tick_rests : Laws → (edge now : ℕ) (n : Node) (slot : ℕ) (f : Family) → KeepsRules edge n → IsSoundFamily f → family_in n.families slot ≡ Some (tick_of now f).family
    → AllByRecursion (CommitRests n.found.standing) (tick_of now f).words
tick_rests law edge now n slot f h sound there = go (has_room f.entries (tick_at now)) there
  where
    go : (t : Bool) → family_in n.families slot ≡ Some (if t then family_step f (tick_at now) None else quiet said.Plain f).family
        → AllByRecursion (CommitRests n.found.standing) (if t then family_step f (tick_at now) None else quiet said.Plain f).words
    go true i = step_rests law edge n slot f (tick_at now) None h sound i
    go false i = tt

ticked_rest : Laws → (edge now : ℕ) (n : Node) → KeepsRules edge n → KeepsRules edge (ticks now n).node
    → AllByRecursion (λ (h : Happening). AllByRecursion (CommitRests n.found.standing) h.words) (ticks now n).happened
unfolding ticks
ticked_rest law edge now n h r =
    happened_all (λ (x : Happening). AllByRecursion (CommitRests n.found.standing) x.words) now n.families (λ slot f i.
    tick_rests law edge now (tells_again (passes_time now n)) slot f r (h.decisions.sound.families slot f i).1
    (family_ticked now n.families slot ∙ ap (λ (o : Option Family). ticked now o) i))

-- ---- told again

-- the words of some registrations
pub told_all : (P : Outward → Type 0) (lives place : ℕ) (decided : Bool) (ps : List Party) → ((p : Party) → Contains ps p → (o : Outward) → telling.word_to lives place decided p ≡ Some o → P o)
    → AllByRecursion P (filter_map (telling.word_to lives place decided) ps)
told_all P lives place decided [] each = tt
told_all P lives place decided (p ∷ ps) each =
    put (telling.word_to lives place decided p) (λ o e. each p (zero, omega arith, refl) o e) (told_all P lives place decided ps (λ q c o e. each q (behind_one p ps q c) o e))
  where
    put : (x : Option Outward) → ((o : Outward) → x ≡ Some o → P o) → AllByRecursion P (filter_map (telling.word_to lives place decided) ps)
        → AllByRecursion P (cons_option x (filter_map (telling.word_to lives place decided) ps))
    put None one rest = rest
    put (Some o) one rest = (one o refl, rest)

-- and of all records
pub words_all : (P : Outward → Type 0) (lives : ℕ) (xs : List Held) → ((h : Held) → Contains xs h → AllByRecursion P (telling.words_of lives h)) → AllByRecursion P (telling.words lives xs)
words_all P lives [] each = tt
words_all P lives (x ∷ xs) each =
    all_joined P (telling.words_of lives x) (telling.words lives xs) (each x (zero, omega arith, refl)) (words_all P lives xs (λ h c. each h (behind_one x xs h c)))

-- one of a decision
module _ (standing : List Standing) (lives place l slot generation : ℕ) (by : Option RetryKey) (asked : Bool) (named : List Registration)
    (there : Contains standing (record { place = place; item = Decision l slot generation by asked named })) (p : Party) (names : Contains named (named_as p.index p.to)) where
  abbrev decision_of : (w : Word) (receipt : Option Receipt) → GoesByDecision standing (telling.outward lives place p w receipt)
  decision_of w receipt = record {
    place = place;
    of_life = l;
    slot = slot;
    generation = generation;
    by = by;
    asked = asked;
    named = named;
    stands = there;
    names = names;
  }

  retold_one : (decided : Bool) (d : Due) (o : Outward) → telling.word_by lives place decided p d ≡ Some o → IsOfStanding lives standing o
  retold_one decided due.Commit o e =
      subst (λ (x : Outward). IsOfStanding lives standing x) (inner e) (record {
        decision = decision_of (words.Phase phase_words.Commit) (Some (record { place = place; registration = p.index }));
        number = refl;
        word = inl refl;
        receipt = refl;
      })
  retold_one true due.Forget o e =
      subst (λ (x : Outward). IsOfStanding lives standing x) (inner e) (record {
        decision = decision_of words.Forget None;
        number = refl;
        word = inr refl;
        receipt = refl;
      })
  retold_one false due.Forget o e = absurd (cc e)
  retold_one decided due.Nothing o e = absurd (cc e)

silent_one : (lives place : ℕ) (decided : Bool) (p : Party) (d : Due) (o : Outward) → d ≡ due.Nothing → telling.word_by lives place decided p d ≡ Some o → ⊥
silent_one lives place decided p due.Nothing o n e = absurd (cc e)
silent_one lives place decided p due.Commit o n e = absurd (cc n)
silent_one lives place decided p due.Forget o n e = absurd (cc n)

retold_of : (standing : List Standing) (lives : ℕ) (h : Held) (r : JournalRecord) → Contains standing (record { place = h.place; item = r }) → IsToldOf r h
    → AllByRecursion (IsOfStanding lives standing) (telling.words_of lives h)
retold_of standing lives h (Decision l slot generation by asked named) there told =
    told_all (IsOfStanding lives standing) lives h.place (is_decided h.kind) h.parties
    (λ p c o e. retold_one standing lives h.place l slot generation by asked named there p (all_at (λ (q : Party). Contains named (named_as q.index q.to)) h.parties p told c) (is_decided h.kind) p.due o e)
retold_of standing lives h (Prepared l slot generation recovery named) there told =
    told_all (IsOfStanding lives standing) lives h.place (is_decided h.kind) h.parties
    (λ p c o e. absurd (silent_one lives h.place (is_decided h.kind) p p.due o (all_at (λ (q : Party). q.due ≡ due.Nothing) h.parties p told.1 c) e))
retold_of standing lives h (Life l) there told = absurd told
retold_of standing lives h (Done named) there told = absurd told
retold_of standing lives h (CellsPrepared l number recovery puts) there told = absurd told
retold_of standing lives h (CellsOutcome named end) there told = absurd told
retold_of standing lives h (CellsOnePhase l number puts) there told = absurd told

retold_rest : (now : ℕ) (n : Node) → TellsStanding (ticks now n).node → AllByRecursion (IsOfStanding (life n) n.found.standing) (ticks now n).words
unfolding ticks
retold_rest now n held =
    let later : Node = tells_again (passes_time now n) in
    words_all (IsOfStanding (life n) n.found.standing) (life later) later.recovered (λ h c.
    let x : IsOfRecord n.found.standing h = held h c in
    retold_of n.found.standing (life later) h x.stood.item
    (subst (λ (p : ℕ). Contains n.found.standing (record { place = p; item = x.stood.item })) x.same_place x.there) x.told)

pub commits_rest : NodesKeepRules → Laws → CommitsRest
commits_rest nodes law = record {
  called = λ edge later k e stood n grows appends finds h.
      called_rest law edge later n k e stood (call_wants k e n) (applies k e stood n).node (applies k e stood n).words (called_is n k e stood) h (nodes.called edge later k e stood n grows appends finds h);
  ticked = λ edge now n h. ticked_rest law edge now n h (nodes.ticked edge now n h);
  told_again = retold_rest;
}
