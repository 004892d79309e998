-- What stands behind each outcome of a completion of a tree.
use Rattle.std.proofs.Common.{◌≡◌, refl, ℕ, suc, List, [], ◌∷◌, Option, Some, None, ap, sym, subst, ◌∙◌, ◌&&◌, is_some, not, Bool, true, false, if◌then◌else◌, inl, inr, find}
use Rattle.std.specs.List.{slice_get}
use Rattle.std.specs.Option.{option_map, option_map_or}
use Rattle.std.proofs.lemmas.Option.{same_Some}
use Rattle.ots_model.specs.declared.completion.Heard.{Heard}
use Rattle.ots_model.specs.declared.completion.Heard.TheVariants as hears
use Rattle.ots_model.specs.declared.completion.Vote.TheVariants.{VoteCommit, VoteRollback, VoteReadOnly}
use Rattle.ots_model.specs.declared.completion.CallNumber.{CallNumber}
use Rattle.ots_model.specs.declared.completion.Ground.TheVariants.{Nobody}
use Rattle.ots_model.specs.declared.completion.Stood.{Stood}
use Rattle.ots_model.specs.declared.completion.Stood.TheVariants as answers
use Rattle.ots_model.specs.declared.tree.Reason.{Reason}
use Rattle.ots_model.specs.declared.completion.Reason.TheVariants as phase_reasons
use Rattle.ots_model.specs.declared.tree.Reason.TheVariants as reasons
use Rattle.ots_model.specs.Numbered.{Outcome}
use Rattle.ots_model.specs.declared.completion.Outcome.TheVariants as outcomes
use Rattle.two_phase.specs.Course.{same_number}
use Rattle.two_phase.specs.Parties.{consents}
use Rattle.two_phase.specs.Course.{Course, is_outside, decides_alone, all_consent, some_commit, first_refuser, by_refusal, by_record, by_one, by_votes, outcome, errand, answered, wants_decision, is_doubtful, may_roll_back}
use Rattle.two_phase.specs.LawsOfReached.{TreeBecomes, IsReached}
use Rattle.two_phase.specs.LawsOfReached.TreeBecomes.{by_word, by_answer as by_heard, by_record as by_stood, by_reread as by_found, by_rollback}
use Rattle.two_phase.specs.LawsOfReached.IsReached.{begins, rolls_back, goes_on}
use Rattle.two_phase.specs.LawsOfOutcomes.{HasAnswered, HasCause, StandsBehind}
use Rattle.two_phase.specs.Parties.{has_refused, by_answer, reason_of}
use Rattle.two_phase.specs.declared.party.Party.{Party}
use Rattle.two_phase.specs.declared.party.Errand.{Errand}
use Rattle.two_phase.proofs.Rests.{and_left, alone_is, votes_is}
use Rattle.two_phase.proofs.Overtaken.{overtaken_ends}
use Rattle.two_phase.proofs.Stays.{if_case}

-- whatever overtook it came from outside
abbrev Outside : Course → Type 0
Outside c = (r : Reason) → c.overtaken ≡ Some r → is_outside r ≡ true

outside_heard : (c : Course) → Outside c → (n : CallNumber) (h : Heard) (o : Option Errand) → Outside (elim o [ Some e ↦ if same_number n c.number then answered h c e else c | None ↦ c ])
outside_heard c g n h None = g
outside_heard c g n h (Some e) = if_case Outside (same_number n c.number) (answered h c e) c (λ _. g) g

outside_by : (c later : Course) → TreeBecomes c later → Outside c → Outside later
outside_by _ _ (by_word c) g = if_case Outside (is_some c.out) c (record c { out = errand c }) (λ _. g) g
outside_by _ _ (by_heard c n h) g = outside_heard c g n h c.out
outside_by _ _ (by_stood c stood) g = if_case Outside (wants_decision c) (record c { stood = Some stood }) c (λ _. g) g
outside_by _ _ (by_found c found) g = if_case Outside (is_doubtful c) (record c { reread = Some found }) c (λ _. g) g
outside_by _ _ (by_rollback c reason) g = if_case Outside (is_outside reason && may_roll_back c) _ c
    (λ both r e. ap is_outside (sym (same_Some reason r e)) ∙ and_left (is_outside reason) (may_roll_back c) both) g

only_outside : (reason : Reason) (b : Bool) → is_outside reason ≡ b → (r : Reason) → (if b then Some reason else None) ≡ Some r → is_outside r ≡ true
only_outside reason true is r e = ap is_outside (sym (same_Some reason r e)) ∙ is
only_outside reason false is r e = absurd (cc (e))

outside : (c : Course) → IsReached c → Outside c
outside _ (begins participants asked first one_phase) = λ r e. absurd (cc (e))
outside _ (rolls_back participants asked first one_phase reason) = only_outside reason (is_outside reason) refl
outside _ (goes_on c later reached step) = outside_by c later step (outside c reached)

-- then it is the cause
overtaken_cause : (c : Course) (r : Reason) → is_outside r ≡ true → c.overtaken ≡ Some r → HasCause r c
overtaken_cause c reasons.Asked o e = e
overtaken_cause c reasons.Marked o e = e
overtaken_cause c reasons.Timeout o e = e
overtaken_cause c (reasons.SyncLost s) o e = e
overtaken_cause c (reasons.SyncStarved s) o e = e
overtaken_cause c reasons.Superior o e = e
overtaken_cause c reasons.NotEnlisted o e = e
overtaken_cause c (reasons.Phase (phase_reasons.Vote g)) o e = absurd (cc (o))
overtaken_cause c (reasons.Phase (phase_reasons.PrepareLost g)) o e = absurd (cc (o))
overtaken_cause c (reasons.Phase (phase_reasons.PrepareStarved g)) o e = absurd (cc (o))
overtaken_cause c (reasons.Phase (phase_reasons.PrepareFault g)) o e = absurd (cc (o))
overtaken_cause c (reasons.Phase (phase_reasons.JournalFull used need)) o e = absurd (cc (o))
overtaken_cause c reasons.NotStored o e = absurd (cc (o))

-- by the answer of the one that decides alone
alone_answer : (c : Course) → decides_alone c ≡ true → (p : Party) → slice_get c.parties 0 ≡ Some p → (h : Heard) → p.ballot ≡ Some h → HasAnswered p.index h c
alone_answer c alone p there h ballot = record { place = 0; party = p; there = there; named = refl; ballot = ballot }

alone_cause : (c : Course) → decides_alone c ≡ true → (p : Party) → slice_get c.parties 0 ≡ Some p → (h : Heard) → p.ballot ≡ Some h → StandsBehind (by_answer p.index h) c
alone_cause c a p there hears.Done ballot = record { alone = a; number = p.index; answer = alone_answer c a p there hears.Done ballot }
alone_cause c a p there hears.RolledBack ballot = inr (a, alone_answer c a p there hears.RolledBack ballot)
alone_cause c a p there (hears.Voted vote) ballot = record {
  heard = hears.Voted vote;
  answer = record { alone = a; number = p.index; answer = alone_answer c a p there (hears.Voted vote) ballot };
  not_done = λ e. cc (e);
  not_rolled_back = λ e. cc (e);
}
alone_cause c a p there (hears.Heuristic d) ballot = record {
  heard = hears.Heuristic d;
  answer = record { alone = a; number = p.index; answer = alone_answer c a p there (hears.Heuristic d) ballot };
  not_done = λ e. cc (e);
  not_rolled_back = λ e. cc (e);
}
alone_cause c a p there hears.NotPrepared ballot = record {
  heard = hears.NotPrepared;
  answer = record { alone = a; number = p.index; answer = alone_answer c a p there hears.NotPrepared ballot };
  not_done = λ e. cc (e);
  not_rolled_back = λ e. cc (e);
}
alone_cause c a p there hears.NoObject ballot = record {
  heard = hears.NoObject;
  answer = record { alone = a; number = p.index; answer = alone_answer c a p there hears.NoObject ballot };
  not_done = λ e. cc (e);
  not_rolled_back = λ e. cc (e);
}
alone_cause c a p there hears.Other ballot = record {
  heard = hears.Other;
  answer = record { alone = a; number = p.index; answer = alone_answer c a p there hears.Other ballot };
  not_done = λ e. cc (e);
  not_rolled_back = λ e. cc (e);
}
alone_cause c a p there hears.Lost ballot = record {
  heard = hears.Lost;
  answer = record { alone = a; number = p.index; answer = alone_answer c a p there hears.Lost ballot };
  not_done = λ e. cc (e);
  not_rolled_back = λ e. cc (e);
}
alone_cause c a p there hears.Starved ballot = record {
  heard = hears.Starved;
  answer = record { alone = a; number = p.index; answer = alone_answer c a p there hears.Starved ballot };
  not_done = λ e. cc (e);
  not_rolled_back = λ e. cc (e);
}

alone_heard : (c : Course) → decides_alone c ≡ true → (p : Party) → slice_get c.parties 0 ≡ Some p → (o : Option Heard) → p.ballot ≡ o → (fixed : Outcome)
    → option_map (by_answer p.index) o ≡ Some fixed → StandsBehind fixed c
alone_heard c a p there None ballot fixed e = absurd (cc (e))
alone_heard c a p there (Some h) ballot fixed e = subst (λ o. StandsBehind o c) (same_Some (by_answer p.index h) fixed e) (alone_cause c a p there h ballot)

by_first : (c : Course) → decides_alone c ≡ true → (o : Option Party) → slice_get c.parties 0 ≡ o → (fixed : Outcome) → by_one o ≡ Some fixed → StandsBehind fixed c
by_first c a None there fixed e = absurd (cc (e))
by_first c a (Some p) there fixed e = alone_heard c a p there p.ballot refl fixed e

-- the first that refuses has its place in the list, and has refused
record IsFound (ps : List Party) (p : Party) : Type 0 where
  place : ℕ
  there : slice_get ps place ≡ Some p
  refused : has_refused p ≡ true

found_at : (ps : List Party) (p : Party) → find has_refused ps ≡ Some p → IsFound ps p
found_at [] p e = absurd (cc (e))
found_at (x ∷ xs) p e = by_head (λ h. found_at xs p h) (has_refused x) refl e
  where
    by_head : (find has_refused xs ≡ Some p → IsFound xs p) → (b : Bool) → has_refused x ≡ b → (if b then Some x else find has_refused xs) ≡ Some p → IsFound (x ∷ xs) p
    by_head behind true is h = record { place = 0; there = h; refused = ap has_refused (sym (same_Some x p h)) ∙ is }
    by_head behind false is h = let f = behind h in record { place = suc f.place; there = f.there; refused = f.refused }

-- and its answer is the cause
refusal_cause : (c : Course) (i : ℕ) (p : Party) → slice_get c.parties i ≡ Some p → (h : Heard) → p.ballot ≡ Some h → not (consents h) ≡ true → HasCause (reason_of p.index h) c
refusal_cause c i p there (hears.Voted VoteCommit) ballot e = absurd (cc (e))
refusal_cause c i p there (hears.Voted VoteReadOnly) ballot e = absurd (cc (e))
refusal_cause c i p there (hears.Voted VoteRollback) ballot e = inl (record { place = i; party = p; there = there; named = refl; ballot = ballot })
refusal_cause c i p there hears.Lost ballot e = record { place = i; party = p; there = there; named = refl; ballot = ballot }
refusal_cause c i p there hears.Starved ballot e = record { place = i; party = p; there = there; named = refl; ballot = ballot }
refusal_cause c i p there hears.Done ballot e = record { heard = hears.Done; fault = tt; answer = record { place = i; party = p; there = there; named = refl; ballot = ballot } }
refusal_cause c i p there (hears.Heuristic d) ballot e = record { heard = hears.Heuristic d; fault = tt; answer = record { place = i; party = p; there = there; named = refl; ballot = ballot } }
refusal_cause c i p there hears.RolledBack ballot e = record { heard = hears.RolledBack; fault = tt; answer = record { place = i; party = p; there = there; named = refl; ballot = ballot } }
refusal_cause c i p there hears.NotPrepared ballot e = record { heard = hears.NotPrepared; fault = tt; answer = record { place = i; party = p; there = there; named = refl; ballot = ballot } }
refusal_cause c i p there hears.NoObject ballot e = record { heard = hears.NoObject; fault = tt; answer = record { place = i; party = p; there = there; named = refl; ballot = ballot } }
refusal_cause c i p there hears.Other ballot e = record { heard = hears.Other; fault = tt; answer = record { place = i; party = p; there = there; named = refl; ballot = ballot } }

refused_by : (c : Course) (i : ℕ) (p : Party) → slice_get c.parties i ≡ Some p → (o : Option Heard) → p.ballot ≡ o → option_map_or (λ h. not (consents h)) o false ≡ true → (fixed : Outcome)
    → option_map (λ h. outcomes.Rollback (reason_of p.index h)) o ≡ Some fixed → StandsBehind fixed c
refused_by c i p there None ballot e fixed h = absurd (cc (h))
refused_by c i p there (Some x) ballot e fixed h = subst (λ o. StandsBehind o c) (same_Some (outcomes.Rollback (reason_of p.index x)) fixed h) (refusal_cause c i p there x ballot e)

-- by the record
recorded_cause : (c : Course) → all_consent c ≡ true → some_commit c ≡ true → (s : Option Stood) → c.stood ≡ s → (r : Option (Option ℕ)) → c.reread ≡ r → (fixed : Outcome)
    → by_record s r ≡ Some fixed → StandsBehind fixed c
recorded_cause c all some None stood r read fixed e = absurd (cc (e))
recorded_cause c all some (Some (answers.Stands place)) stood r read fixed e =
    subst (λ o. StandsBehind o c) (same_Some _ fixed e) (record { consent = all; waits = some; place = place; stands = rw stood refl })
recorded_cause c all some (Some (answers.Full used need)) stood r read fixed e = subst (λ o. StandsBehind o c) (same_Some _ fixed e) stood
recorded_cause c all some (Some (answers.Unsure why)) stood None read fixed e = absurd (cc (e))
recorded_cause c all some (Some (answers.Unsure why)) stood (Some None) read fixed e = subst (λ o. StandsBehind o c) (same_Some _ fixed e) (rw stood refl, read)
recorded_cause c all some (Some (answers.Unsure why)) stood (Some (Some place)) read fixed e =
    subst (λ o. StandsBehind o c) (same_Some _ fixed e) (record { consent = all; waits = some; place = place; stands = rw (stood, read) refl })

all_cause : (c : Course) → all_consent c ≡ true → (b : Bool) → some_commit c ≡ b → (fixed : Outcome)
    → (if b then by_record c.stood c.reread else Some (outcomes.Commit Nobody)) ≡ Some fixed → StandsBehind fixed c
all_cause c all true some fixed e = recorded_cause c all some c.stood refl c.reread refl fixed e
all_cause c all false some fixed e = subst (λ o. StandsBehind o c) (same_Some _ fixed e) (all, some)

consent_cause : (c : Course) (b : Bool) → all_consent c ≡ b → (fixed : Outcome)
    → (if not b then None else if some_commit c then by_record c.stood c.reread else Some (outcomes.Commit Nobody)) ≡ Some fixed → StandsBehind fixed c
consent_cause c true all fixed e = all_cause c all (some_commit c) refl fixed e
consent_cause c false all fixed e = absurd (cc (e))

votes_cause : (c : Course) (o : Option Party) → find has_refused c.parties ≡ o → (fixed : Outcome)
    → elim o [ Some p ↦ by_refusal p | None ↦ if not (all_consent c) then None else if some_commit c then by_record c.stood c.reread else Some (outcomes.Commit Nobody) ] ≡ Some fixed
    → StandsBehind fixed c
votes_cause c None is fixed e = consent_cause c (all_consent c) refl fixed e
votes_cause c (Some p) is fixed e = let f = found_at c.parties p is in refused_by c f.place p f.there p.ballot refl f.refused fixed e

by_votes_cause : (c : Course) (fixed : Outcome) → by_votes c ≡ Some fixed → StandsBehind fixed c
unfolding first_refuser
by_votes_cause c fixed e = votes_cause c (find has_refused c.parties) refl fixed e

free_cause : (c : Course) → c.overtaken ≡ None → (b : Bool) → decides_alone c ≡ b → (fixed : Outcome) → outcome c ≡ Some fixed → StandsBehind fixed c
free_cause c free true alone fixed is = by_first c alone (slice_get c.parties 0) refl fixed (sym (alone_is c free alone) ∙ is)
free_cause c free false alone fixed is = by_votes_cause c fixed (sym (votes_is c free alone) ∙ is)

any_cause : (c : Course) → IsReached c → (o : Option Reason) → c.overtaken ≡ o → (fixed : Outcome) → outcome c ≡ Some fixed → StandsBehind fixed c
any_cause c reached None free fixed is = free_cause c free (decides_alone c) refl fixed is
any_cause c reached (Some r) over fixed is =
    subst (λ o. StandsBehind o c) (same_Some (outcomes.Rollback r) fixed (sym (overtaken_ends c r over) ∙ is)) (overtaken_cause c r (outside c reached r over) over)

pub outcomes_have_causes : (c : Course) (fixed : Outcome) → IsReached c → outcome c ≡ Some fixed → StandsBehind fixed c
outcomes_have_causes c fixed reached is = any_cause c reached c.overtaken refl fixed is
