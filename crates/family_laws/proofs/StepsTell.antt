-- What each step of a family tells.
use Rattle.std.proofs.Common.{◌≡◌, ◌⊎◌, ◌==◌, inl, inr, ℕ, ◌+◌, List, [], ◌∷◌, ◌++◌, length, Bool, true, false, if◌then◌else◌, Option, Some, None, Contains, refl, ap, sym, subst, ◌∙◌, arith}
use Rattle.std.proofs.lemmas.List.Elements.{Contains-append_cases, Contains-append_left}
use Rattle.std.specs.List.{AllByRecursion, filter_map}
use Rattle.ots_model.specs.Heard.{of_participant}
use Rattle.ots_model.specs.declared.completion.CallNumber.{CallNumber}
use Rattle.ots_model.specs.declared.completion.Heard.TheVariants as phase_hears
use Rattle.ots_model.specs.declared.completion.Stood.{Stood}
use Rattle.ots_model.specs.declared.completion.Stood.TheVariants as answers
use Rattle.ots_model.specs.declared.completion.Vote.{Vote}
use Rattle.ots_model.specs.declared.tree.Heard.{Heard}
use Rattle.ots_model.specs.declared.tree.Heard.TheVariants as hears_words
use Rattle.ots_model.specs.declared.tree.Outward.{Outward}
use Rattle.ots_model.specs.declared.tree.Reason.{Reason}
use Rattle.ots_model.specs.declared.tree.Reason.TheVariants as reasons
use Rattle.txn_tree.specs.Calls.{created, creating, ended}
use Rattle.txn_tree.specs.declared.row.TreeFault.{TreeFault}
use Rattle.resource_votes.specs.Ballots.{Ballots}
use Rattle.resource_votes.specs.declared.registration.VoteFault.{VoteFault}
use Rattle.two_phase.specs.LawsOfReached.{TreeOutcomeStays}
use Rattle.two_phase.specs.Stages as stages
use Rattle.two_phase.specs.Stages.{Standing}
use Rattle.coordinator.specs.declared.call.Stage.{Stage}
use Rattle.coordinator.specs.declared.call.Stage.TheVariants.{Going, Finishing, Completing, Over}
use Rattle.coordinator.specs.declared.effect.Effect.{Effect}
use Rattle.coordinator.specs.declared.effect.Effect.TheVariants as effects
use Rattle.coordinator.specs.declared.event.Act.{Act}
use Rattle.coordinator.specs.declared.event.Act.TheVariants as acts
use Rattle.coordinator.specs.declared.event.Event.{Event}
use Rattle.coordinator.specs.declared.phase.Column.{Column}
use Rattle.coordinator.specs.declared.phase.Column.TheVariants as columns
use Rattle.coordinator.specs.declared.said.Said.{Said}
use Rattle.coordinator.specs.declared.said.Said.TheVariants as said
use Rattle.coordinator.specs.Family.{Family, Commits, RollsBack, waiting_for}
use Rattle.coordinator.specs.Moves.{Moved, only, ◌▹◌, shows, completes_as, fixed_now}
use Rattle.coordinator.specs.Closing.{begins, rolling_back}
use Rattle.coordinator.specs.Running.{runs, goes_on}
use Rattle.coordinator.specs.Hearing.{wants_done, decided, done_effects, closes, settles}
use Rattle.coordinator.specs.Phases.{column, is_open, has_parent_ended}
use Rattle.coordinator.specs.History.{kept_for, repeated}
use Rattle.coordinator.specs.Table.{Acted, new_call, on_branch, on_terminator, has_terminator, has_branch, gets_terminator, registers, creates_by, creates_in, creates_subtransaction, marks_only, rolls_back_top, rolls_back_sub, rolls_back, begins_commit, unless_orphan, commits_in, commits, rolls_back_in, rolls_back_asked, registers_resource, registers_synchronization, registers_aware, replays}
use Rattle.coordinator.specs.Step.{hears, goes_on_at, answered, has_timed_out, times_out, ticks, found_at, rereads, acts_on, acted, is_silent, Stepped, quiet, entered, step_by, family_step}
use Rattle.family_laws.specs.LawsOfTelling.{rows_told, AreNumberedFrom, decided_in, IsVoted, IsHeardVote, FamiliesTellEnds, FamiliesNumberWords, FamiliesTellOutcomes, FamiliesTellVotes}
use Rattle.family_laws.specs.Sound.{IsSoundFamily}
use Rattle.family_laws.proofs.Ending.{all_at}
use Rattle.family_laws.proofs.Hearing.{done_rows}
use Rattle.family_laws.proofs.Lists.{all_map}
use Rattle.family_laws.proofs.Telling.{TellsNew, IsTold, told_next, IsOther, IsKept, kept_itself, Plain, plain_next, either_plain, nothing_new, only_plain, shows_plain, rolls_plain, runs_plain, goes_on_plain}
use Rattle.family_laws.proofs.Votes.{IsNoVote, IsNoDone, other_no_vote, other_no_done, IsHearing, hears_is, hears_votes, no_vote_among, marks_plain, decided_plain, reread_plain}

-- ---- the journal

pub record IsSettling (f : Family) (stood : Option Stood) (m : Moved) : Type 0 where
  pub told : IsTold f.key f.serial f.rows f.completion m
  pub no_votes : AllByRecursion IsNoVote m.effects
  pub kept : IsKept f.completion m.family.completion
  pub done : Contains m.effects effects.Done
      → (stages.wants_decision f.completion ≡ false) × (wants_done f ≡ true) × ((place : ℕ) × (stood ≡ Some (answers.Stands place)))

pub no_done_among : (some : List Effect) → AllByRecursion IsNoDone some → Contains some effects.Done → ⊥
no_done_among some all h = all_at IsNoDone some effects.Done all h

plain_settles : (f : Family) (stood : Option Stood) (m : Moved) → Plain f m → IsSettling f stood m
plain_settles f stood m h = record {
  told = h.told;
  no_votes = all_map IsOther IsNoVote other_no_vote m.effects h.others;
  kept = h.kept;
  done = λ c. absurd (no_done_among m.effects (all_map IsOther IsNoDone other_no_done m.effects h.others) c);
}

done_new : (stood : Stood) → filter_map decided_in (done_effects stood) ≡ []
done_new (answers.Stands place) = refl
done_new (answers.Full used need) = refl
done_new (answers.Unsure why) = refl

done_no_votes : (stood : Stood) → AllByRecursion IsNoVote (done_effects stood)
done_no_votes (answers.Stands place) = (tt, tt)
done_no_votes (answers.Full used need) = tt
done_no_votes (answers.Unsure why) = tt

done_stands : (stood : Stood) → Contains (done_effects stood) effects.Done → (place : ℕ) × (Some stood ≡ Some (answers.Stands place))
done_stands (answers.Stands place) h = (place, refl)
done_stands (answers.Full used need) h = let l = h.1 in absurd (omega (arith, l))
done_stands (answers.Unsure why) h = let l = h.1 in absurd (omega (arith, l))

closes_is : (stood : Stood) (f : Family) → stages.wants_decision f.completion ≡ false → wants_done f ≡ true → IsSettling f (Some stood) (closes stood f)
unfolding closes
closes_is stood f e d = record {
  told = record { key_stays = refl; counts = omega arith; numbers = tt; follows = done_rows f.rows stood; outcomes = nothing_new f.completion (done_effects stood) (done_new stood) };
  no_votes = done_no_votes stood;
  kept = kept_itself f.completion;
  done = λ c. (e, d, done_stands stood c);
}

pub settles_is : (stood : Option Stood) (f : Family) → IsSettling f stood (settles stood f)
unfolding settles
settles_is None f = plain_settles f None (only f) (only_plain f)
settles_is (Some stood) f = by_decision (stages.wants_decision f.completion) refl
  where
    by_done : stages.wants_decision f.completion ≡ false → (t : Bool) → wants_done f ≡ t → IsSettling f (Some stood) (if t then closes stood f else only f)
    by_done e true d = closes_is stood f e d
    by_done e false d = plain_settles f (Some stood) (only f) (only_plain f)

    by_decision : (t : Bool) → stages.wants_decision f.completion ≡ t → IsSettling f (Some stood) (if t then decided stood f else (if wants_done f then closes stood f else only f))
    by_decision true e = plain_settles f (Some stood) (decided stood f) (decided_plain stood f)
    by_decision false e = by_done e (wants_done f) refl

-- ---- an answer

pub goes_on_at_plain : (o : Option ℕ) (f : Family) → Plain f (goes_on_at o f)
goes_on_at_plain (Some b) f = goes_on_plain b f
goes_on_at_plain None f = only_plain f

pub record IsAnswering (f : Family) (n : CallNumber) (h : Heard) (stood : Option Stood) (m : Moved) : Type 0 where
  pub told : IsTold f.key f.serial f.rows f.completion m
  pub votes : (g : ℕ) (vote : Vote) → Contains m.effects (effects.Voted g vote)
      → (of_participant h ≡ phase_hears.Voted vote) × (stages.voter f.completion ≡ Some g) × IsVoted m.family.completion g vote
  pub waited : (g : ℕ) (vote : Vote) → IsSoundFamily f → Contains m.effects (effects.Voted g vote) → waiting_for f n ≡ Some 0
  pub before : (g : ℕ) (vote : Vote) → stages.decides_alone m.family.completion ≡ false → IsVoted m.family.completion g vote
      → IsVoted f.completion g vote ⊎ Contains m.effects (effects.Voted g vote)
  pub place : (p : ℕ) → stages.record_place f.completion ≡ Some p → stages.record_place m.family.completion ≡ Some p
  pub done : Contains m.effects effects.Done
      → (stages.wants_decision (hears n h f).family.completion ≡ false) × (wants_done (hears n h f).family ≡ true) × ((place : ℕ) × (stood ≡ Some (answers.Stands place)))

pub answered_is : (n : CallNumber) (h : Heard) (stood : Option Stood) (f : Family) → IsAnswering f n h stood (answered n h stood f)
unfolding answered
answered_is n h stood f = record {
  told = told_next f (hears n h f ▹ settles stood) (goes_on_at (waiting_for f n)) (told_next f (hears n h f) (settles stood) x.told y.told) z.told;
  votes = λ g vote c. let v = x.hears.votes g vote (heard_so g vote c) in (v.0, v.1, z.kept.voted g vote (y.kept.voted g vote v.2));
  waited = λ g vote sound c. hears_votes n h f g vote sound (heard_so g vote c);
  before = λ g vote a v. told_so g vote (x.hears.before g vote (y.kept.alone (z.kept.alone a)) (y.kept.votes g vote (z.kept.votes g vote v)));
  place = λ p e. z.kept.place p (y.kept.place p (x.hears.place p e));
  done = λ c. settled_so c;
}
  where
    m : Moved
    m = hears n h f

    k : Moved
    k = settles stood m.family

    j : Moved
    j = goes_on_at (waiting_for f n) k.family

    x : IsHearing f (of_participant h) m
    x = hears_is n h f

    y : IsSettling m.family stood k
    y = settles_is stood m.family

    z : Plain k.family j
    z = goes_on_at_plain (waiting_for f n) k.family

    first_two : (e : Effect) → Contains ((m.effects ++ k.effects) ++ j.effects) e → Contains j.effects e ⊎ (Contains m.effects e ⊎ Contains k.effects e)
    first_two e c = go (Contains-append_cases (m.effects ++ k.effects) j.effects e c)
      where
        go : Contains (m.effects ++ k.effects) e ⊎ Contains j.effects e → Contains j.effects e ⊎ (Contains m.effects e ⊎ Contains k.effects e)
        go (inl a) = inr (Contains-append_cases m.effects k.effects e a)
        go (inr a) = inl a

    heard_so : (g : ℕ) (vote : Vote) → Contains ((m.effects ++ k.effects) ++ j.effects) (effects.Voted g vote) → Contains m.effects (effects.Voted g vote)
    heard_so g vote c = go (first_two (effects.Voted g vote) c)
      where
        go : Contains j.effects (effects.Voted g vote) ⊎ (Contains m.effects (effects.Voted g vote) ⊎ Contains k.effects (effects.Voted g vote)) → Contains m.effects (effects.Voted g vote)
        go (inl a) = absurd (no_vote_among j.effects (all_map IsOther IsNoVote other_no_vote j.effects z.others) g vote a)
        go (inr (inl a)) = a
        go (inr (inr a)) = absurd (no_vote_among k.effects y.no_votes g vote a)

    told_so : (g : ℕ) (vote : Vote) → IsVoted f.completion g vote ⊎ Contains m.effects (effects.Voted g vote) → IsVoted f.completion g vote ⊎ Contains ((m.effects ++ k.effects) ++ j.effects) (effects.Voted g vote)
    told_so g vote (inl v) = inl v
    told_so g vote (inr c) = inr (Contains-append_left (m.effects ++ k.effects) j.effects (effects.Voted g vote) (Contains-append_left m.effects k.effects (effects.Voted g vote) c))

    settled_so : Contains ((m.effects ++ k.effects) ++ j.effects) effects.Done
        → (stages.wants_decision m.family.completion ≡ false) × (wants_done m.family ≡ true) × ((place : ℕ) × (stood ≡ Some (answers.Stands place)))
    settled_so c = go (first_two effects.Done c)
      where
        go : Contains j.effects effects.Done ⊎ (Contains m.effects effects.Done ⊎ Contains k.effects effects.Done)
            → (stages.wants_decision m.family.completion ≡ false) × (wants_done m.family ≡ true) × ((place : ℕ) × (stood ≡ Some (answers.Stands place)))
        go (inl a) = absurd (no_done_among j.effects (all_map IsOther IsNoDone other_no_done j.effects z.others) a)
        go (inr (inl a)) = absurd (no_done_among m.effects x.hears.no_done a)
        go (inr (inr a)) = y.done a

-- ---- an act

-- what an answer does
pub record IsAnswer (f : Family) (act : Act) (stood : Option Stood) (m : Moved) : Type 0 where
  pub number : CallNumber
  pub heard : Heard
  pub is : act ≡ acts.Answer number heard
  pub same : m ≡ answered number heard stood f

pub record IsActed (f : Family) (act : Act) (b : ℕ) (stood : Option Stood) (m : Moved) : Type 0 where
  pub key_stays : m.family.key ≡ f.key
  pub counts : m.family.serial ≡ f.serial + length m.words
  pub numbers : AreNumberedFrom f.key f.serial m.words
  pub outcomes : TellsNew f.completion m.family.completion m.effects
  pub follows : (m.family.rows ≡ rows_told m.effects f.rows) ⊎ ((m.effects ≡ []) × (m.family.rows ≡ created f.rows b))
  pub rest : (AllByRecursion IsOther m.effects × IsKept f.completion m.family.completion) ⊎ IsAnswer f act stood m

plainly : (f : Family) (act : Act) (b : ℕ) (stood : Option Stood) (m : Moved) → Plain f m → IsActed f act b stood m
plainly f act b stood m h = record {
  key_stays = h.told.key_stays;
  counts = h.told.counts;
  numbers = h.told.numbers;
  outcomes = h.told.outcomes;
  follows = inl h.told.follows;
  rest = inl (h.others, h.kept);
}

answers_act : (f : Family) (n : CallNumber) (h : Heard) (b : ℕ) (stood : Option Stood) → IsActed f (acts.Answer n h) b stood (answered n h stood f)
answers_act f n h b stood =
    let t = (answered_is n h stood f).told in
    record {
      key_stays = t.key_stays;
      counts = t.counts;
      numbers = t.numbers;
      outcomes = t.outcomes;
      follows = inl t.follows;
      rest = inr (record { number = n; heard = h; is = refl; same = refl });
    }

rereads_plain : (stood : Option Stood) (f : Family) → Plain f (rereads stood f)
unfolding rereads
rereads_plain stood f =
    plain_next f (completes_as (stages.after_reread (found_at stood) f.completion) f) (goes_on 0) (reread_plain stood f)
    (goes_on_plain 0 (completes_as (stages.after_reread (found_at stood) f.completion) f).family)

rolls_back_top_plain : (reason : Reason) (caller : Option ℕ) (answer : Said) (f : Family) → Plain f (rolls_back_top reason caller answer f)
unfolding rolls_back_top
rolls_back_top_plain reason caller answer f =
    plain_next f (begins (rolling_back false reason f) f) (runs 0 (new_call caller (RollsBack answer))) (rolls_plain false reason f)
    (runs_plain 0 (new_call caller (RollsBack answer)) (begins (rolling_back false reason f) f).family)

rolls_back_sub_plain : (b : ℕ) (caller : Option ℕ) (answer : Said) (f : Family) → Plain f (rolls_back_sub b caller answer f)
unfolding rolls_back_sub
rolls_back_sub_plain b caller answer f =
    let g : Family = record f { rows = ended f.rows b false } in
    plain_next f (shows (effects.SubtransactionEnded b false ∷ []) g) (runs b (new_call caller (RollsBack answer)))
    (shows_plain (effects.SubtransactionEnded b false) f g tt refl refl refl refl refl) (runs_plain b (new_call caller (RollsBack answer)) g)

rolls_back_plain : (b : ℕ) (reason : Reason) (caller : Option ℕ) (answer : Said) (f : Family) → Plain f (rolls_back b reason caller answer f)
rolls_back_plain b reason caller answer f = either_plain f (b == 0) _ _ (rolls_back_top_plain reason caller answer f) (rolls_back_sub_plain b caller answer f)

begins_commit_plain : (b position : ℕ) (asked : Bool) (f : Family) → Plain f (begins_commit b position asked f)
unfolding begins_commit
begins_commit_plain b position asked f = go (b == 0)
  where
    go : (t : Bool) → Plain f (runs b (new_call (Some position) (Commits asked)) (if t then record f { stage = Finishing } else f))
    go true = runs_plain b (new_call (Some position) (Commits asked)) (record f { stage = Finishing })
    go false = runs_plain b (new_call (Some position) (Commits asked)) f

abbrev PlainAct : Family → Acted → Type 0
PlainAct f a = Plain f a.moved

either_act : (f : Family) (t : Bool) (x y : Acted) → PlainAct f x → PlainAct f y → PlainAct f (if t then x else y)
either_act f true x y h k = h
either_act f false x y h k = k

unless_orphan_plain : (b : ℕ) (f : Family) (m : Moved) → Plain f m → PlainAct f (unless_orphan b f m)
unless_orphan_plain b f m h = either_act f (has_parent_ended f b) _ _ (only_plain f) h

commits_in_plain : (place : Column) (b position : ℕ) (asked : Bool) (f : Family) → PlainAct f (commits_in place b position asked f)
commits_in_plain columns.Active b position asked f = unless_orphan_plain b f _ (begins_commit_plain b position asked f)
commits_in_plain columns.Marked b position asked f = unless_orphan_plain b f _ (rolls_back_plain b reasons.Marked (Some position) said.TransactionRolledBack f)
commits_in_plain columns.Finishing b position asked f = only_plain f
commits_in_plain columns.RolledBack b position asked f = only_plain f
commits_in_plain columns.Past b position asked f = only_plain f

rolls_back_in_plain : (place : Column) (b position : ℕ) (f : Family) → PlainAct f (rolls_back_in place b position f)
rolls_back_in_plain columns.Active b position f = rolls_back_plain b reasons.Asked (Some position) said.Plain f
rolls_back_in_plain columns.Marked b position f = rolls_back_plain b reasons.Asked (Some position) said.Plain f
rolls_back_in_plain columns.Finishing b position f = only_plain f
rolls_back_in_plain columns.RolledBack b position f = only_plain f
rolls_back_in_plain columns.Past b position f = only_plain f

registers_plain : (fault : Option VoteFault) (answer : Said) (later : Ballots) (f : Family) → PlainAct f (registers fault answer later f)
registers_plain None answer later f = record {
  told = record { key_stays = refl; counts = omega arith; numbers = tt; follows = refl; outcomes = nothing_new f.completion [] refl };
  others = tt;
  kept = kept_itself f.completion;
}
registers_plain (Some fault) answer later f = only_plain f

marks_only_plain : (b : ℕ) (f : Family) → PlainAct f (marks_only b f)
unfolding marks_only
marks_only_plain b f = either_act f (is_open (column f b)) _ _ (marks_plain b f) (only_plain f)

times_out_plain : (stage : Stage) (f : Family) → Plain f (times_out stage f)
times_out_plain Going f = rolls_back_top_plain reasons.Timeout None said.Plain f
times_out_plain Finishing f = marks_plain 0 f
times_out_plain Completing f = marks_plain 0 f
times_out_plain Over f = marks_plain 0 f

ticks_plain : (now : ℕ) (f : Family) → Plain f (ticks now f)
unfolding ticks
ticks_plain now f = either_plain f (has_timed_out f now) _ _ (times_out_plain f.stage f) (only_plain f)

abbrev Acts : Family → Act → ℕ → Option Stood → Acted → Type 0
Acts f act b stood a = IsActed f act b stood a.moved

creates_by_acts : (fault : Option TreeFault) (act : Act) (b : ℕ) (stood : Option Stood) (f : Family) → Acts f act b stood (creates_by fault b f)
creates_by_acts None act b stood f = record {
  key_stays = refl;
  counts = omega arith;
  numbers = tt;
  outcomes = nothing_new f.completion [] refl;
  follows = inr (refl, refl);
  rest = inl (tt, kept_itself f.completion);
}
creates_by_acts (Some fault) act b stood f = plainly f act b stood (only f) (only_plain f)

creates_in_acts : (place : Column) (act : Act) (b : ℕ) (stood : Option Stood) (f : Family) → Acts f act b stood (creates_in place b f)
creates_in_acts columns.Active act b stood f = creates_by_acts (creating f.rows b) act b stood f
creates_in_acts columns.Marked act b stood f = plainly f act b stood (only f) (only_plain f)
creates_in_acts columns.Finishing act b stood f = plainly f act b stood (only f) (only_plain f)
creates_in_acts columns.RolledBack act b stood f = plainly f act b stood (only f) (only_plain f)
creates_in_acts columns.Past act b stood f = plainly f act b stood (only f) (only_plain f)

either_acts : (f : Family) (act : Act) (b : ℕ) (stood : Option Stood) (t : Bool) (x y : Acted) → Acts f act b stood x → Acts f act b stood y → Acts f act b stood (if t then x else y)
either_acts f act b stood true x y h k = h
either_acts f act b stood false x y h k = k

-- a call on a branch, or on a terminator, that is there
on_branch_plain : (act : Act) (b : ℕ) (stood : Option Stood) (f : Family) (a : Acted) → PlainAct f a → Acts f act b stood (on_branch b f a)
on_branch_plain act b stood f a h = plainly f act b stood (on_branch b f a).moved (either_act f (has_branch f b) a _ h (only_plain f))

on_terminator_plain : (act : Act) (b : ℕ) (stood : Option Stood) (f : Family) (a : Acted) → PlainAct f a → Acts f act b stood (on_terminator b f a)
on_terminator_plain act b stood f a h = plainly f act b stood (on_terminator b f a).moved (either_act f (has_terminator f b) a _ h (only_plain f))

opened_plain : (deadline : Option ℕ) (f : Family) → Plain f (only (record f { deadline = deadline }))
opened_plain deadline f = only_plain (record f { deadline = deadline })

by_act : (act : Act) (b now : ℕ) (stood : Option Stood) (f : Family) → Acts f act b stood (acts_on act b now stood f)
unfolding gets_terminator commits rolls_back_asked registers_resource registers_synchronization registers_aware creates_subtransaction replays
by_act acts.GetTerminator b now stood f = on_branch_plain _ b stood f _ (only_plain f)
by_act acts.GetCoordinator b now stood f = on_branch_plain _ b stood f _ (only_plain f)
by_act (acts.Commit asked) b now stood f = on_terminator_plain _ b stood f _ (commits_in_plain (column f b) b _ asked f)
by_act acts.Rollback b now stood f = on_terminator_plain _ b stood f _ (rolls_back_in_plain (column f b) b _ f)
by_act acts.GetStatus b now stood f = plainly f _ b stood (only f) (only_plain f)
by_act acts.GetParentStatus b now stood f = plainly f _ b stood (only f) (only_plain f)
by_act acts.GetTopLevelStatus b now stood f = on_branch_plain _ b stood f _ (only_plain f)
by_act (acts.IsSameTransaction other) b now stood f = on_branch_plain _ b stood f _ (only_plain f)
by_act (acts.IsRelatedTransaction other) b now stood f = on_branch_plain _ b stood f _ (only_plain f)
by_act (acts.IsAncestorTransaction other) b now stood f = on_branch_plain _ b stood f _ (only_plain f)
by_act (acts.IsDescendantTransaction other) b now stood f = on_branch_plain _ b stood f _ (only_plain f)
by_act acts.IsTopLevelTransaction b now stood f = on_branch_plain _ b stood f _ (only_plain f)
by_act acts.HashTransaction b now stood f = on_branch_plain _ b stood f _ (only_plain f)
by_act acts.HashTopLevelTran b now stood f = on_branch_plain _ b stood f _ (only_plain f)
by_act (acts.RegisterResource to aware) b now stood f = on_branch_plain _ b stood f _ (registers_plain _ _ _ f)
by_act (acts.RegisterSynchronization to) b now stood f = on_branch_plain _ b stood f _ (registers_plain _ _ _ f)
by_act (acts.RegisterSubtranAware to) b now stood f = on_branch_plain _ b stood f _ (registers_plain _ _ _ f)
by_act acts.RollbackOnly b now stood f = on_branch_plain _ b stood f _ (marks_only_plain b f)
by_act acts.GetTransactionName b now stood f = on_branch_plain _ b stood f _ (only_plain f)
by_act acts.CreateSubtransaction b now stood f =
    either_acts f acts.CreateSubtransaction b stood (has_branch f b) _ _ (creates_in_acts (column f b) acts.CreateSubtransaction b stood f) (plainly f acts.CreateSubtransaction b stood (only f) (only_plain f))
by_act acts.GetTxcontext b now stood f = on_branch_plain _ b stood f _ (only_plain f)
by_act (acts.Replay g resource) b now stood f = plainly f _ b stood (only f) (only_plain f)
by_act (acts.Superior word) b now stood f = plainly f _ b stood (only f) (only_plain f)
by_act (acts.Answer n h) b now stood f = answers_act f n h b stood
by_act acts.Tick b now stood f = plainly f _ b stood (ticks now f) (ticks_plain now f)
by_act (acts.Reread stands) b now stood f = plainly f _ b stood (rereads stood f) (rereads_plain stood f)
by_act (acts.Opened deadline) b now stood f = plainly f _ b stood (only (record f { deadline = deadline })) (opened_plain deadline f)

-- ---- a step

-- a step does what its act does, or nothing
pub record IsStep (f : Family) (e : Event) (stood : Option Stood) (s : Stepped) : Type 0 where
  pub moved : Moved
  pub acted : IsActed f e.act e.branch stood moved
  pub completion : s.family.completion ≡ moved.family.completion
  pub rows : s.family.rows ≡ moved.family.rows
  pub serial : s.family.serial ≡ moved.family.serial
  pub key : s.family.key ≡ moved.family.key
  pub words : s.words ≡ moved.words
  pub effects_are : s.effects ≡ moved.effects

quiet_step : (answer : Said) (f : Family) (e : Event) (stood : Option Stood) → IsStep f e stood (quiet answer f)
quiet_step answer f e stood = record {
  moved = only f;
  acted = plainly f e.act e.branch stood (only f) (only_plain f);
  completion = refl;
  rows = refl;
  serial = refl;
  key = refl;
  words = refl;
  effects_are = refl;
}

entered_step : (f : Family) (e : Event) (stood : Option Stood) (a : Acted) → Acts f e.act e.branch stood a → IsStep f e stood (entered f e stood a)
unfolding entered
entered_step f e stood a h = record {
  moved = a.moved;
  acted = h;
  completion = refl;
  rows = refl;
  serial = refl;
  key = refl;
  words = refl;
  effects_are = refl;
}

either_step : (f : Family) (e : Event) (stood : Option Stood) (t : Bool) (x y : Stepped) → IsStep f e stood x → IsStep f e stood y → IsStep f e stood (if t then x else y)
either_step f e stood true x y h k = h
either_step f e stood false x y h k = k

step_by_is : (o : Option Said) (f : Family) (e : Event) (stood : Option Stood) → IsStep f e stood (step_by o f e stood)
unfolding acted
step_by_is (Some answer) f e stood = quiet_step (repeated answer) f e stood
step_by_is None f e stood = either_step f e stood (is_silent e f) _ _ (quiet_step said.Plain f e stood)
    (entered_step f e stood (acted e stood f) (by_act e.act e.branch e.now stood f))

pub step_is : (f : Family) (e : Event) (stood : Option Stood) → IsStep f e stood (family_step f e stood)
unfolding family_step
step_is f e stood = step_by_is (kept_for f.entries e.key) f e stood

-- ---- the laws

pub families_tell_ends : FamiliesTellEnds
families_tell_ends f e stood = go (family_step f e stood) (step_is f e stood)
  where
    go : (s : Stepped) → IsStep f e stood s → (s.family.rows ≡ rows_told s.effects f.rows) ⊎ ((s.effects ≡ []) × (s.family.rows ≡ created f.rows e.branch))
    go s h = rw (h.effects_are, h.rows) h.acted.follows

pub families_number_words : FamiliesNumberWords
families_number_words = record {
  numbers = λ f e stood. let h = step_is f e stood in subst (λ (ws : List Outward). AreNumberedFrom f.key f.serial ws) (sym h.words) h.acted.numbers;
  serial = λ f e stood. let h = step_is f e stood in h.serial ∙ h.acted.counts ∙ ap (λ (ws : List Outward). f.serial + length ws) (sym h.words);
  key = λ f e stood. let h = step_is f e stood in h.key ∙ h.acted.key_stays;
}

pub families_tell_outcomes : TreeOutcomeStays → FamiliesTellOutcomes
families_tell_outcomes law f e stood there = go (family_step f e stood) (step_is f e stood)
  where
    go : (s : Stepped) → IsStep f e stood s → filter_map decided_in s.effects ≡ filter_map decided_in (fixed_now (stages.outcome f.completion) (stages.outcome s.family.completion))
    go s h = rw (h.effects_are, h.completion) (h.acted.outcomes law there).1

heard_vote : (h : Heard) (vote : Vote) → of_participant h ≡ phase_hears.Voted vote → h ≡ hears_words.Phase (phase_hears.Voted vote)
heard_vote (hears_words.Phase phase_hears.Done) vote e = absurd (cc e)
heard_vote (hears_words.Phase (phase_hears.Voted v)) vote e = cc e
heard_vote (hears_words.Phase (phase_hears.Heuristic d)) vote e = absurd (cc e)
heard_vote (hears_words.Phase phase_hears.RolledBack) vote e = absurd (cc e)
heard_vote (hears_words.Phase phase_hears.NotPrepared) vote e = absurd (cc e)
heard_vote (hears_words.Phase phase_hears.NoObject) vote e = absurd (cc e)
heard_vote (hears_words.Told status) vote e = absurd (cc e)
heard_vote (hears_words.Enlisted reference) vote e = absurd (cc e)
heard_vote (hears_words.Phase phase_hears.Other) vote e = absurd (cc e)
heard_vote (hears_words.Phase phase_hears.Lost) vote e = absurd (cc e)
heard_vote (hears_words.Phase phase_hears.Starved) vote e = absurd (cc e)

vote_told : (f : Family) (e : Event) (stood : Option Stood) (g : ℕ) (vote : Vote) → IsSoundFamily f → (s : Stepped) → IsStep f e stood s → Contains s.effects (effects.Voted g vote) → IsHeardVote f s.family e.act g vote
vote_told f e stood g vote sound s h c = go h.acted.rest
  where
    among : Contains h.moved.effects (effects.Voted g vote)
    among = subst (λ (xs : List Effect). Contains xs (effects.Voted g vote)) h.effects_are c

    go : (AllByRecursion IsOther h.moved.effects × IsKept f.completion h.moved.family.completion) ⊎ IsAnswer f e.act stood h.moved → IsHeardVote f s.family e.act g vote
    go (inl o) = absurd (no_vote_among h.moved.effects (all_map IsOther IsNoVote other_no_vote h.moved.effects o.0) g vote among)
    go (inr a) =
        let x : IsAnswering f a.number a.heard stood (answered a.number a.heard stood f) = answered_is a.number a.heard stood f in
        let there : Contains (answered a.number a.heard stood f).effects (effects.Voted g vote) = subst (λ (m : Moved). Contains m.effects (effects.Voted g vote)) a.same among in
        let v = x.votes g vote there in
        record {
          number = a.number;
          answer = a.is ∙ ap (λ (y : Heard). acts.Answer a.number y) (heard_vote a.heard vote v.0);
          waited = x.waited g vote sound there;
          asked = v.1;
          counted = subst (λ (t : Standing). IsVoted t g vote) (sym (h.completion ∙ ap (λ (m : Moved). m.family.completion) a.same)) v.2;
        }

vote_counted : (f : Family) (e : Event) (stood : Option Stood) (g : ℕ) (vote : Vote) → (s : Stepped) → IsStep f e stood s → stages.decides_alone s.family.completion ≡ false → IsVoted s.family.completion g vote
    → IsVoted f.completion g vote ⊎ Contains s.effects (effects.Voted g vote)
vote_counted f e stood g vote s h alone v = go h.acted.rest
  where
    so : IsVoted f.completion g vote ⊎ Contains h.moved.effects (effects.Voted g vote) → IsVoted f.completion g vote ⊎ Contains s.effects (effects.Voted g vote)
    so (inl x) = inl x
    so (inr c) = inr (subst (λ (xs : List Effect). Contains xs (effects.Voted g vote)) (sym h.effects_are) c)

    go : (AllByRecursion IsOther h.moved.effects × IsKept f.completion h.moved.family.completion) ⊎ IsAnswer f e.act stood h.moved → IsVoted f.completion g vote ⊎ Contains s.effects (effects.Voted g vote)
    go (inl o) = inl (o.1.votes g vote (subst (λ (t : Standing). IsVoted t g vote) h.completion v))
    go (inr a) =
        let is = h.completion ∙ ap (λ (m : Moved). m.family.completion) a.same in
        let x : IsAnswering f a.number a.heard stood (answered a.number a.heard stood f) = answered_is a.number a.heard stood f in
        so (subst (λ (m : Moved). IsVoted f.completion g vote ⊎ Contains m.effects (effects.Voted g vote)) (sym a.same)
        (x.before g vote (subst (λ (t : Standing). stages.decides_alone t ≡ false) is alone) (subst (λ (t : Standing). IsVoted t g vote) is v)))

pub families_tell_votes : FamiliesTellVotes
families_tell_votes = record {
  told = λ f e stood g vote sound c. vote_told f e stood g vote sound (family_step f e stood) (step_is f e stood) c;
  counted = λ f e stood g vote sound alone v. vote_counted f e stood g vote (family_step f e stood) (step_is f e stood) alone v;
}

-- a record that stands for a family stands for it still
pub step_place : (f : Family) (e : Event) (stood : Option Stood) (p : ℕ) → stages.record_place f.completion ≡ Some p → stages.record_place (family_step f e stood).family.completion ≡ Some p
step_place f e stood p at = go (family_step f e stood) (step_is f e stood)
  where
    go : (s : Stepped) → IsStep f e stood s → stages.record_place s.family.completion ≡ Some p
    go s h = ap (λ (t : Standing). stages.record_place t) h.completion ∙ by h.acted.rest
      where
        by : (AllByRecursion IsOther h.moved.effects × IsKept f.completion h.moved.family.completion) ⊎ IsAnswer f e.act stood h.moved → stages.record_place h.moved.family.completion ≡ Some p
        by (inl o) = o.1.place p at
        by (inr a) = ap (λ (m : Moved). stages.record_place m.family.completion) a.same ∙ (answered_is a.number a.heard stood f).place p at
