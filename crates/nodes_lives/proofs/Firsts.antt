-- What a family had heard in a call is told before the record that the call writes.
use Rattle.std.proofs.Common.{◌≡◌, ℕ, ◌+◌, ◌<◌, Bool, true, false, not, cond, nat_lt, is_none, is_some, if◌then◌else◌, List, [], ◌∷◌, ◌++◌, length, take, Contains, Option, Some, None, refl, sym, ap, subst, ◌∙◌, arith, append_assoc, length-append}
use Rattle.std.specs.Prelude.{position, unwrap_or}
use Rattle.std.specs.List.{position_or_len, prefix_len}
use Rattle.std.specs.Option.{option_map}
use Rattle.std.proofs.Math.Seq.{take-append_seam}
use Rattle.std.proofs.lemmas.Bool.Decides.{nat_tests}
use Rattle.std.proofs.lemmas.List.Elements.{Contains-append_right}
use Rattle.ior_refs.specs.declared.key.ObjectKey.{ObjectKey}
use Rattle.ots_model.specs.declared.completion.CallNumber.{CallNumber}
use Rattle.ots_model.specs.declared.completion.Ground.TheVariants.{Record}
use Rattle.ots_model.specs.declared.completion.Stood.{Stood}
use Rattle.ots_model.specs.declared.completion.Stood.TheVariants as answers
use Rattle.ots_model.specs.declared.tree.Heard.{Heard}
use Rattle.ots_model.specs.Numbered.{Outcome}
use Rattle.ots_model.specs.declared.completion.Outcome.TheVariants as outcomes
use Rattle.recovery_coord.specs.Held.{is_held}
use Rattle.recovery_coord.specs.Hearing.{completed}
use Rattle.recovery_coord.specs.Laws.{CompletesOnce}
use Rattle.two_phase.specs.Stages as stages
use Rattle.two_phase.specs.Stages.{Standing as Completion}
use Rattle.coordinator.specs.Family.{Family, waiting_for}
use Rattle.coordinator.specs.Hearing.{closes, decided, decision_record, record_place, settles, wants_done}
use Rattle.coordinator.specs.History.{has_room, kept_for}
use Rattle.coordinator.specs.Node.{Node, life}
use Rattle.coordinator.specs.NodeCalls.{Applied, RetoldAnswer, answers_recovered, applied_by, applies, by_records, call_wants, done_told, family_for, hears_record, records_hear, records_want, refuses, retold_answer, steps_to, wanted_by as wanted_of}
use Rattle.coordinator.specs.Moves.{Moved, completes_as, fixed_now, only}
use Rattle.coordinator.specs.Step.{Wanted, Appends, WritesDone, Stepped, acted, acts_on, answered, entered, family_step, goes_on_at, hears, is_silent, is_silent_act, quiet, step_by, wanted, wanted_act, wanted_by}
use Rattle.coordinator.specs.declared.effect.Effect.{Effect}
use Rattle.coordinator.specs.declared.effect.Effect.TheVariants as effects
use Rattle.coordinator.specs.declared.event.Act.{Act}
use Rattle.coordinator.specs.declared.event.Act.TheVariants as acts
use Rattle.coordinator.specs.declared.event.Event.{Event}
use Rattle.coordinator.specs.declared.node.NodeFault.TheVariants as faults
use Rattle.coordinator.specs.declared.said.Said.{Said}
use Rattle.coordinator.specs.declared.said.Said.TheVariants as said
use Rattle.family_laws.specs.LawsOfJournal.{FamiliesCloseLast}
use Rattle.nodes_world.specs.Nodes.{heard_effects}
use Rattle.service_node.specs.Given.{node_makes}
use Rattle.nodes_lives.specs.First.{before_record, heard_by, is_decided, is_done, told_before}
use Rattle.nodes_lives.proofs.Hears.{No, quiet_hears}
use Rattle.nodes_lives.proofs.Naming.{applied_is, held_then, wants_is}
use Rattle.nodes_lives.proofs.Wanting.{commits_then, not_yet}

-- ---- the first of some effects

prefix_at : (p : Effect → Bool) (some : List Effect) (x : Effect) (rest : List Effect) → No p some → p x ≡ true → position_or_len p (some ++ x ∷ rest) ≡ length some
prefix_at p [] x rest none is = ap (λ (b : Bool). cond (not b) (1 + prefix_len (λ (y : Effect). not (p y)) rest) 0) is
prefix_at p (y ∷ some) x rest none is =
    let i = prefix_at p some x rest none.1 is in
    ap (λ (b : Bool). cond (not b) (1 + prefix_len (λ (z : Effect). not (p z)) (some ++ x ∷ rest)) 0) none.0 ∙ omega (arith, i)

prefix_all : (p : Effect → Bool) (some : List Effect) → No p some → position_or_len p some ≡ length some
prefix_all p [] none = refl
prefix_all p (y ∷ some) none =
    let i = prefix_all p some none.1 in
    ap (λ (b : Bool). cond (not b) (1 + prefix_len (λ (z : Effect). not (p z)) some) 0) none.0 ∙ omega (arith, i)

less : (a b : ℕ) → a < b → nat_lt a b ≡ true
less a b is = grind (arith, nat_tests)

same_not : (a b : ℕ) → a ≡ b → nat_lt a b ≡ false
same_not a b is = grind (arith, nat_tests)

position_at : (p : Effect → Bool) (some : List Effect) (x : Effect) (rest : List Effect) → No p some → p x ≡ true → position p (some ++ x ∷ rest) ≡ Some (length some)
position_at p some x rest none is =
    let at = prefix_at p some x rest none is in
    let long = length-append some (x ∷ rest) in
    ap (λ (b : Bool). cond b (Some (position_or_len p (some ++ x ∷ rest))) None) (less (position_or_len p (some ++ x ∷ rest)) (length (some ++ x ∷ rest)) (omega (arith, at, long)))
    ∙ ap (λ (n : ℕ). Some n) at

position_none : (p : Effect → Bool) (some : List Effect) → No p some → position p some ≡ None
position_none p some none =
    ap (λ (b : Bool). cond b (Some (position_or_len p some)) None) (same_not (position_or_len p some) (length some) (prefix_all p some none))

first_done : (some : List Effect) (x : Effect) (rest : List Effect) → No is_done some → is_done x ≡ true → before_record (some ++ x ∷ rest) ≡ some
first_done some x rest none is =
    let all = some ++ x ∷ rest in
    ap (λ (o : Option ℕ). take (unwrap_or o (unwrap_or (position is_decided all) (length all))) all) (position_at is_done some x rest none is)
    ∙ take-append_seam some (x ∷ rest)

first_decided : (some : List Effect) (x : Effect) (rest : List Effect) → No is_done (some ++ x ∷ rest) → No is_decided some → is_decided x ≡ true
    → before_record (some ++ x ∷ rest) ≡ some
first_decided some x rest undone none is =
    let all = some ++ x ∷ rest in
    ap (λ (o : Option ℕ). take (unwrap_or o (unwrap_or (position is_decided all) (length all))) all) (position_none is_done all undone)
    ∙ ap (λ (o : Option ℕ). take (unwrap_or o (length all)) all) (position_at is_decided some x rest none is)
    ∙ take-append_seam some (x ∷ rest)

none_by : (p : Effect → Bool) (some : List Effect) → ((x : Effect) → Contains some x → p x ≡ false) → No p some
none_by p [] each = tt
none_by p (x ∷ some) each = (each x (0, omega arith, refl), none_by p some (λ y c. each y (Contains-append_right (x ∷ []) some y c)))

-- ---- a step of a family

module _ (closing : FamiliesCloseLast) (f : Family) (e : Event) (at : ℕ) (w : Wanted) (wants : wanted f e ≡ Some w) where
  abbrev stood : Option Stood
  stood = Some (answers.Stands at)

  abbrev step : Stepped
  step = family_step f e stood

  module _ (n : CallNumber) (h : Heard) (same : e.act ≡ acts.Answer n h) (kept : kept_for f.entries e.key ≡ None) (waits : is_some (waiting_for f n) ≡ true)
      (by : wanted_by (hears n h f).family ≡ Some w) where
    abbrev m : Moved
    m = hears n h f

    abbrev g : Family
    g = m.family

    abbrev s : Moved
    s = settles stood g

    abbrev j : Moved
    j = goes_on_at (waiting_for f n) s.family

    some_not_none : {A : Type 0} (o : Option A) → is_some o ≡ true → is_none o ≡ false
    some_not_none None is = absurd cc
    some_not_none (Some x) is = refl

    loud : is_silent e f ≡ false
    loud = ap (λ (a : Act). is_silent_act a e.now f) same ∙ some_not_none (waiting_for f n) waits

    step_effects : step.effects ≡ (answered n h stood f).effects
    unfolding family_step entered acted
    step_effects =
        ap (λ (o : Option _). (step_by o f e stood).effects) kept
        ∙ ap (λ (b : Bool). (if b then quiet said.Plain f else entered f e stood (acted e stood f)).effects) loud
        ∙ ap (λ (a : Act). (acts_on a e.branch e.now stood f).moved.effects) same

    all_effects : step.effects ≡ (m.effects ++ s.effects) ++ j.effects
    unfolding answered
    all_effects = step_effects

    joined : (x : Effect) → s.effects ≡ x ∷ [] → step.effects ≡ m.effects ++ x ∷ j.effects
    joined x is = all_effects ∙ ap (λ (xs : List Effect). (m.effects ++ xs) ++ j.effects) is ∙ append_assoc m.effects (x ∷ []) j.effects

    heard_is : heard_effects e.act f ≡ m.effects
    heard_is = ap (λ (a : Act). heard_effects a f) same

    fixed : (a b : Option Outcome) (o : Outcome) → a ≡ None → b ≡ Some o → fixed_now a b ≡ effects.Decided o ∷ []
    fixed None (Some x) o none is = ap (λ (y : Outcome). effects.Decided y ∷ []) (inner is)
      where
        inner : Some x ≡ Some o → x ≡ o
        inner e = cc
    fixed None None o none is = absurd cc
    fixed (Some y) b o none is = absurd cc

    -- its decision
    by_decision : stages.wants_decision g.completion ≡ true → before_record step.effects ≡ heard_effects e.act f
    unfolding settles decided completes_as
    by_decision decides =
        let o : Outcome = outcomes.Commit Record in
        let shown : s.effects ≡ effects.Decided o ∷ [] =
        ap (λ (b : Bool). (if b then decided (answers.Stands at) g else if wants_done g then closes (answers.Stands at) g else only g).effects) decides
        ∙ ap (λ (xs : List Effect). xs ++ []) (fixed (stages.outcome g.completion) (stages.outcome (stages.after_decided (answers.Stands at) g.completion)) o
        (not_yet g.completion decides) (commits_then g.completion at decides)) in
        let all = joined (effects.Decided o) shown in
        let append : wanted f e ≡ Some (Appends (decision_record g)) =
        wants ∙ sym by ∙ ap (λ (b : Bool). if b then Some (Appends (decision_record g)) else if wants_done g then option_map WritesDone (record_place g.completion) else None) decides in
        ap before_record all
        ∙ first_decided m.effects (effects.Decided o) j.effects
        (subst (No is_done) all (none_by is_done step.effects (λ x c. not_done append x c)))
        ((quiet_hears n h f).undecided (not_yet g.completion decides)) refl
        ∙ sym heard_is
      where
        no : (place : ℕ) → Some (Appends (decision_record g)) ≡ Some (WritesDone place) → ⊥
        no place is = cc

        not_done : wanted f e ≡ Some (Appends (decision_record g)) → (x : Effect) → Contains step.effects x → is_done x ≡ false
        not_done append effects.Done c = let told = closing.told f e stood c in absurd (no told.0 (sym append ∙ told.2))
        not_done append (effects.Decided o) c = refl
        not_done append (effects.Voted number vote) c = refl
        not_done append (effects.SubtransactionEnded b committed) c = refl
        not_done append (effects.Marked b) c = refl
        not_done append effects.Doubted c = refl

    -- its Done
    by_done : stages.wants_decision g.completion ≡ false → wants_done g ≡ true → before_record step.effects ≡ heard_effects e.act f
    unfolding settles closes
    by_done undecided closing_now =
        let shown : s.effects ≡ effects.Done ∷ [] =
        ap (λ (b : Bool). (if b then decided (answers.Stands at) g else if wants_done g then closes (answers.Stands at) g else only g).effects) undecided
        ∙ ap (λ (b : Bool). (if b then closes (answers.Stands at) g else only g).effects) closing_now in
        ap before_record (joined effects.Done shown) ∙ first_done m.effects effects.Done j.effects (quiet_hears n h f).undone refl ∙ sym heard_is

    by_either : (a b : Bool) → stages.wants_decision g.completion ≡ a → wants_done g ≡ b → before_record step.effects ≡ heard_effects e.act f
    by_either true b decides done_too = by_decision decides
    by_either false true decides done_too = by_done decides done_too
    by_either false false decides done_too =
        absurd (no (sym by ∙ ap (λ (x : Bool). if x then Some (Appends (decision_record g)) else if wants_done g then option_map WritesDone (record_place g.completion) else None) decides
        ∙ ap (λ (x : Bool). if x then option_map WritesDone (record_place g.completion) else None) done_too))
      where
        no : Some w ≡ None → ⊥
        no is = cc

    pub comes_first : before_record step.effects ≡ heard_effects e.act f
    comes_first = by_either (stages.wants_decision g.completion) (wants_done g) refl refl

  -- an answer is heard: nothing else asks the journal
  by_act : (a : Act) → e.act ≡ a → node_makes a ≡ false → kept_for f.entries e.key ≡ None → wanted_act a f ≡ Some w → before_record step.effects ≡ heard_effects e.act f
  by_act (acts.Answer n h) same given kept is = by_waits (is_some (waiting_for f n)) refl is
    where
      by_waits : (b : Bool) → is_some (waiting_for f n) ≡ b → cond b (wanted_by (hears n h f).family) None ≡ Some w → before_record step.effects ≡ heard_effects e.act f
      by_waits true waits by = comes_first n h same kept waits by
      by_waits false waits by = absurd cc
  by_act acts.GetTerminator same given kept is = absurd cc
  by_act acts.GetCoordinator same given kept is = absurd cc
  by_act (acts.Commit asked) same given kept is = absurd cc
  by_act acts.Rollback same given kept is = absurd cc
  by_act acts.GetStatus same given kept is = absurd cc
  by_act acts.GetParentStatus same given kept is = absurd cc
  by_act acts.GetTopLevelStatus same given kept is = absurd cc
  by_act (acts.IsSameTransaction other) same given kept is = absurd cc
  by_act (acts.IsRelatedTransaction other) same given kept is = absurd cc
  by_act (acts.IsAncestorTransaction other) same given kept is = absurd cc
  by_act (acts.IsDescendantTransaction other) same given kept is = absurd cc
  by_act acts.IsTopLevelTransaction same given kept is = absurd cc
  by_act acts.HashTransaction same given kept is = absurd cc
  by_act acts.HashTopLevelTran same given kept is = absurd cc
  by_act (acts.RegisterResource to aware) same given kept is = absurd cc
  by_act (acts.RegisterSynchronization to) same given kept is = absurd cc
  by_act (acts.RegisterSubtranAware to) same given kept is = absurd cc
  by_act acts.RollbackOnly same given kept is = absurd cc
  by_act acts.GetTransactionName same given kept is = absurd cc
  by_act acts.CreateSubtransaction same given kept is = absurd cc
  by_act acts.GetTxcontext same given kept is = absurd cc
  by_act (acts.Replay x resource) same given kept is = absurd cc
  by_act (acts.Superior word) same given kept is = absurd cc
  by_act acts.Tick same given kept is = absurd cc
  by_act (acts.Reread stands) same given kept is = absurd cc
  by_act (acts.Opened deadline) same given kept is = absurd cc

  by_kept : node_makes e.act ≡ false → (o : Option Said) → kept_for f.entries e.key ≡ o → cond (is_some o) None (wanted_act e.act f) ≡ Some w
      → before_record step.effects ≡ heard_effects e.act f
  by_kept given None kept is = by_act e.act refl given kept is
  by_kept given (Some answer) kept is = absurd cc

  pub told_first : node_makes e.act ≡ false → before_record step.effects ≡ heard_effects e.act f
  unfolding wanted
  told_first given = by_kept given (kept_for f.entries e.key) refl wants

-- ---- a call to a node

module _ (closing : FamiliesCloseLast) (once : CompletesOnce) (k : ObjectKey) (e : Event) (n : Node) (given : node_makes e.act ≡ false) (at : ℕ) (w : Wanted)
    (wants : call_wants k e n ≡ Some w) where
  abbrev answered_so : Option Stood
  answered_so = Some (answers.Stands at)

  by_room : (f : Family) (b : Bool) → cond b (wanted f e) None ≡ Some w
      → told_before (cond b (steps_to n f e answered_so (family_step f e answered_so)) (refuses faults.NoResources n)).answer ≡ heard_effects e.act f
  by_room f true is = told_first closing f e at w is given
  by_room f false is = absurd cc

  by_complete : (o : Option ℕ) → option_map WritesDone o ≡ Some w → before_record (done_told o answered_so) ≡ []
  by_complete None is = absurd cc
  by_complete (Some place) is = first_done [] effects.Done [] tt refl

  by_retold : (r : RetoldAnswer) → records_want (Some r) n ≡ Some w → told_before (hears_record r.number r.heard answered_so n).answer ≡ []
  unfolding hears_record
  by_retold r is = by (is_held r.number.generation n.recovered) refl (completed (life n) r.number r.heard n.recovered) refl is
    where
      no : false ≡ true → ⊥
      no same = cc

      by : (b : Bool) → is_held r.number.generation n.recovered ≡ b → (o : Option ℕ) → completed (life n) r.number r.heard n.recovered ≡ o → option_map WritesDone o ≡ Some w
          → told_before (cond b (records_hear r.number r.heard answered_so n) (refuses faults.ObjectNotExist n)).answer ≡ []
      by true held o complete asked = ap (λ (x : Option ℕ). before_record (done_told x answered_so)) complete ∙ by_complete o asked
      by false held None complete asked = absurd cc
      by false held (Some place) complete asked = absurd (no (sym held ∙ held_then k e n once r.number r.heard place complete))

  by_answer : (r : Option RetoldAnswer) → records_want r n ≡ Some w → told_before (by_records r k e answered_so n).answer ≡ []
  by_answer (Some r) is = by_retold r is
  by_answer None is = absurd cc

  by_family : (o : Option Family) → wanted_of o e n ≡ Some w → told_before (applied_by o k e answered_so n).answer ≡ heard_by o e.act
  unfolding answers_recovered
  by_family (Some f) is = by_room f (has_room f.entries e) is
  by_family None is = by_answer (retold_answer e.act) is

  pub comes_before : told_before (applies k e answered_so n).answer ≡ heard_by (family_for k e n) e.act
  comes_before =
      ap (λ (a : Applied). told_before a.answer) (applied_is k e n (family_for k e n) refl answered_so)
      ∙ by_family (family_for k e n) (sym (wants_is k e n (family_for k e n) refl) ∙ wants)
