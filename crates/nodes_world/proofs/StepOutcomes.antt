-- What is known of outcomes and records once a family has gone on by a step.
use Rattle.std.proofs.Common.{◌≡◌, ◌⊎◌, inl, inr, ℕ, ◌+◌, ◌-◌, ◌==◌, ◌&&◌, Bool, true, false, IsTrue, is_some, cond, find, List, [], ◌∷◌, ◌++◌, slice_get, Contains, Option, Some, None, refl, sym, ap, subst, ◌∙◌, arith}
use Rattle.std.proofs.lemmas.List.Elements.{Contains-append_left, Contains-append_right}
use Rattle.std.proofs.lemmas.Bool.Decides.{nat_tests}
use Rattle.std.specs.List.{list_any}
use Rattle.std.specs.Option.{option_and_then, option_map, option_map_or}
use Rattle.ior_refs.specs.declared.key.ObjectKey.{ObjectKey}
use Rattle.ots_model.specs.Safe.{Stands, HasConsented, IsRegistered, IsSent, TakesPart}
use Rattle.ots_model.specs.declared.completion.Ground.{Ground}
use Rattle.ots_model.specs.declared.completion.Ground.TheVariants.{Record}
use Rattle.ots_model.specs.Numbered.{LineOutcome}
use Rattle.ots_model.specs.declared.completion.Reason.{Reason as ToldReason}
use Rattle.ots_model.specs.declared.completion.Vote.TheVariants.{VoteCommit}
use Rattle.ots_model.specs.declared.completion.Word.TheVariants as phase_words
use Rattle.ots_model.specs.declared.line.Line.{Line}
use Rattle.ots_model.specs.declared.line.Line.TheVariants as lines
use Rattle.ots_model.specs.declared.service.RetryKey.{RetryKey}
use Rattle.ots_model.specs.Numbered.{Outcome}
use Rattle.ots_model.specs.declared.completion.Outcome.TheVariants as outcomes
use Rattle.ots_model.specs.declared.tree.Outward.{Outward}
use Rattle.ots_model.specs.declared.tree.Reason.{Reason}
use Rattle.ots_model.specs.declared.completion.Reason.TheVariants as phase_reasons
use Rattle.ots_model.specs.declared.tree.Reason.TheVariants as reasons
use Rattle.resource_votes.specs.declared.registration.Registration.{Registration}
use Rattle.two_phase.specs.Stages as stages
use Rattle.decision_journal.specs.declared.record.JournalRecord.{JournalRecord}
use Rattle.decision_journal.specs.declared.record.JournalRecord.TheVariants.{Decision}
use Rattle.decision_journal.specs.declared.record.Registration.{Registration as Named}
use Rattle.coordinator.specs.declared.effect.Effect.{Effect}
use Rattle.coordinator.specs.declared.effect.Effect.TheVariants as effects
use Rattle.coordinator.specs.declared.said.Entry.{Entry}
use Rattle.coordinator.specs.declared.said.Finished.{Finished}
use Rattle.coordinator.specs.Family.{Family}
use Rattle.coordinator.specs.Node.{Node, family_in, is_of}
use Rattle.coordinator.specs.Phases.{is_before}
use Rattle.family_laws.specs.Sound.{IsAsking}
use Rattle.nodes_world.specs.declared.thing.Thing.TheVariants as things
use Rattle.nodes_world.specs.Agreement as agreed
use Rattle.nodes_world.specs.Agreement.{CommitsAreRecorded, DecisionsAreRecorded, IsAlone, IsClosed, IsCutOff, IsDecided, IsRolledBack, IsTransaction, NoneIsBoth, OnePhaseIsAlone, RecordsRestOnVotes, RestsOnVotes, RollbacksAreClosed, SubtransactionsEndOnce, has_record, is_decision_of, names_object, recorded_key, records_at}
use Rattle.nodes_world.specs.AgreementInside.{Known, FamilyIsKnown, IsBack, IsBranch, RollbacksAreOutcomes, RollbacksAreTold, ToldIsOpen, TransactionsAreKnown}
use Rattle.nodes_world.specs.Happenings.{Cast, all_effect_lines, all_finished_lines, branch_name, name_numbered, registered}
use Rattle.nodes_world.specs.Objects.{place_of}
use Rattle.nodes_world.specs.Told as tell
use Rattle.nodes_world.specs.Told.{Told, known}
use Rattle.nodes_world.specs.World.{World, Seat, OfNode, NamedKey, family_at, referred, resource_at, thing}
use Rattle.nodes_world.proofs.KnownLines.{AreAmong, among_turned, cut_among, lines_of, part_among, registered_among, joined_of, of_key}
use Rattle.nodes_world.proofs.KnownFamilies.{branch_joined, commits_asking, family_found, is_own, same_parts, all_at, participant_of}
use Rattle.nodes_world.proofs.KnownSeats.{seat_names_kept, set_at}
use Rattle.nodes_world.proofs.CanGo.{any_of, first_key}
use Rattle.nodes_world.proofs.EffectsTold.{TellsEffects, branch_named, is_effect}
use Rattle.nodes_world.proofs.EffectsSay.{IsNamedReason, IsSaidAs, Says, rollback_told, rolled_among}
use Rattle.nodes_world.proofs.BranchNames.{named_branch}
use Rattle.nodes_world.proofs.RowsEnd.{first_or_later, was_live}
use Rattle.nodes_world.proofs.RulesKeep.{IsPlainReason, registered_of}
use Rattle.nodes_world.proofs.StepEnds.{JoinsNow, ends_once_now, not_top, part_cases, told_cases}
use Rattle.nodes_world.proofs.StepIs.{HasNumber, IsCastOf, SpeaksOf, StepIs, decided_new, new_decided}
use Rattle.nodes_world.proofs.StepKnown as step
use Rattle.nodes_world.proofs.StepSeats as seats
use Rattle.nodes_world.proofs.NamedVotes.{one_index, who_is}
use Rattle.resource_votes.specs.Ballots.{participants}

module _ (w : World) (place : ℕ) (s : Seat) (n : Node) (f g : Family) (there : slice_get w.seats place ≡ Some s) (up : s.server ≡ OfNode (Some n))
    (slotted : family_in n.families f.key.slot ≡ Some f) (at_place : place_of f.key ≡ place) (told : List Told) (k : Known w told) (key : ObjectKey)
    (found : family_at w key ≡ Some f) (c : Cast) (cast : IsCastOf f c) (some : List Effect) (sent : List Outward) (is : StepIs w f g some sent)
    (entries : List Entry) (done : List Finished) where
  abbrev v : World
  v = seats.v w place s n f g there up is.key slotted at_place

  abbrev more : List Told
  more = told ++ (all_effect_lines w c some ++ all_finished_lines entries done)

  abbrev early : Bool
  early = is_before f.stage

  own : c.key ≡ f.key
  own = cast.key

  tells : TellsEffects told more
  tells = step.tells w place s n f g there up slotted at_place told k key found c cast some sent is entries done

  abbrev old : FamilyIsKnown w (lines_of told) f
  old = k.families key f found

  on : AreAmong (lines_of told) (lines_of more)
  on line x = step.on w place s n f g there up slotted at_place told k key found c cast some sent is entries done line x

  cases : (line : Line) → Stands line (known more) → Stands line (known told) ⊎ ((e : Effect) × Contains some e × Says w c e (tell.Known line))
  cases line x = step.cases w place s n f g there up slotted at_place told k key found c cast some sent is entries done line x

  refers : (to : List ℕ) → referred v to ≡ referred w to
  refers to = seats.refers_now w place s n f g there up is.key slotted at_place to

  resources : (of : ObjectKey) → resource_at v of ≡ resource_at w of
  resources of = seats.resources_now w place s n f g there up is.key slotted at_place of

  records : (p : ℕ) → records_at v p ≡ records_at w p
  records p = seats.records_now w place s n f g there up is.key slotted at_place p

  has : (p : ℕ) (is_so : JournalRecord → Bool) → has_record v p is_so ≡ has_record w p is_so
  has p is_so = seats.has_now w place s n f g there up is.key slotted at_place p is_so

  among : (e x : Effect) → e ≡ x → Contains some e → Contains some x
  among e x same at = subst (λ (y : Effect). Contains some y) same at

  -- ---- decisions

  -- no commit by a record is told now
  no_commit : (fixed : Outcome) → IsSaidAs fixed (outcomes.Commit Record) → Contains some (effects.Decided fixed) → ⊥
  no_commit (outcomes.Commit basis) said at =
      let new = decided_new w f g some sent is (outcomes.Commit basis) at in
      no (sym new.0 ∙ is.kept.commits (new.1 ∙ ap (λ (x : Ground). Some (outcomes.Commit x)) (sym (same_basis _ Record basis refl said))))
    where
      same_basis : (x : LineOutcome) (a b : Ground) → x ≡ outcomes.Commit a → x ≡ outcomes.Commit b → a ≡ b
      same_basis x a b e d = cc

      no : ◌≡◌ {A = Option Outcome} None (Some (outcomes.Commit Record)) → ⊥
      no e = cc
  no_commit (outcomes.Rollback reason) said at = absurd (no _ said.0 refl said.1)
    where
      no : (x : LineOutcome) (why : ToldReason (List ℕ)) → x ≡ outcomes.Commit Record → x ≡ outcomes.Rollback why → ⊥
      no x why e d = cc
  no_commit outcomes.Unknown said at = absurd cc

  commit_was : (name : List ℕ) → Stands (lines.Decide name (outcomes.Commit Record)) (known more) → Stands (lines.Decide name (outcomes.Commit Record)) (known told)
  commit_was name x = elim (cases (lines.Decide name (outcomes.Commit Record)) x) [
    | inl was ↦ was
    | inr (e, at, (fixed, same, named, said)) ↦ absurd (no_commit fixed said (among e _ same at))
  ]

  decided_back : (name : List ℕ) (of : ObjectKey) → IsDecided v more of name → IsDecided w told of name
  decided_back name of (inl line) = inl (commit_was name line)
  decided_back name of (inr stands) = inr (sym (has (place_of of) (is_decision_of of)) ∙ stands)

  pub recorded_now : DecisionsAreRecorded v more
  recorded_now name of named top line = has (place_of of) (is_decision_of of) ∙ k.recorded name of named top (commit_was name line)

  pub commits_now : CommitsAreRecorded v
  commits_now p o out commit = has p (names_object o.to) ∙ k.commits p o out commit

  -- ---- rollbacks

  -- a rollback that is told now
  abbrev IsNewBack : List ℕ → Type 0
  IsNewBack name = (why : Reason) × Contains some (effects.Decided (outcomes.Rollback why)) × (branch_name w c 0 ≡ Some name)

  said_back : (e : Effect) (name : List ℕ) (reason : ToldReason (List ℕ)) (fixed : Outcome) → Contains some e → e ≡ effects.Decided fixed → branch_name w c 0 ≡ Some name
      → IsSaidAs fixed (outcomes.Rollback reason) → IsNewBack name
  said_back e name reason (outcomes.Commit basis) at same named said = absurd (no _ refl said)
    where
      no : (x : LineOutcome) → x ≡ outcomes.Rollback reason → x ≡ outcomes.Commit basis → ⊥
      no x a b = cc
  said_back e name reason (outcomes.Rollback why) at same named said = (why, among e _ same at, named)
  said_back e name reason outcomes.Unknown at same named said = absurd cc

  rolled_cases : (name : List ℕ) → IsRolledBack more name → IsRolledBack told name ⊎ IsNewBack name
  rolled_cases name (agreed.IsRolledBack.by_known reason x) = elim (cases (lines.Decide name (outcomes.Rollback reason)) x) [
    | inl was ↦ inl (agreed.IsRolledBack.by_known reason was)
    | inr (e, at, (fixed, same, named, said)) ↦ inr (said_back e name reason fixed at same named said)
  ]
  rolled_cases name (agreed.IsRolledBack.by_other reason x) =
      elim (told_cases w told k key f found c own early some is.turn entries done (tell.RolledBack name reason) x) [
        | inl was ↦ inl (agreed.IsRolledBack.by_other reason was)
        | inr (inl (e, at, (why, same, named))) ↦ inr (why, among e _ same at, named)
        | inr (inr answer) ↦ absurd answer
      ]
  rolled_cases name (agreed.IsRolledBack.by_synchronization reason synchronization x) =
      elim (told_cases w told k key f found c own early some is.turn entries done (tell.RolledBackBy name reason synchronization) x) [
        | inl was ↦ inl (agreed.IsRolledBack.by_synchronization reason synchronization was)
        | inr (inl (e, at, (why, same, named))) ↦ inr (why, among e _ same at, named)
        | inr (inr answer) ↦ absurd answer
      ]

  rolled_on : (name : List ℕ) → IsRolledBack told name → IsRolledBack more name
  rolled_on name (agreed.IsRolledBack.by_known reason x) = agreed.IsRolledBack.by_known reason (tells.on _ x)
  rolled_on name (agreed.IsRolledBack.by_other reason x) = agreed.IsRolledBack.by_other reason (tells.reasons_on _ x)
  rolled_on name (agreed.IsRolledBack.by_synchronization reason synchronization x) = agreed.IsRolledBack.by_synchronization reason synchronization (tells.reasons_on _ x)

  -- what has the name of the family's top-level transaction has its key
  own_key : (name : List ℕ) (of : ObjectKey) → branch_name w c 0 ≡ Some name → IsTransaction w name of → of ≡ f.key
  own_key name of named is_named =
      let branch = branch_named w told k key f found c own 0 name named in
      let same : branch.0 ≡ of = inner (sym branch.1 ∙ is_named) in
      sym same ∙ ap (λ (x : ℕ). record branch.0 { index = x }) branch.3 ∙ first_key w told k key f found name 0 branch
    where
      inner : {x y : ObjectKey} → Some (things.Transaction x) ≡ Some (things.Transaction y) → x ≡ y
      inner e = cc

  none_not : {x : Outcome} → None ≡ Some x → ⊥
  none_not e = cc

  -- one that is decided isn't rolled back now
  back_or_decided : (name : List ℕ) (of : ObjectKey) → IsTransaction w name of → of.index ≡ 0 → IsDecided w told of name → IsNewBack name → ⊥
  back_or_decided name of named top decided (why, at, is_name) =
      let same = own_key name of is_name named in
      let stands : IsTrue (has_record w (place_of of) (is_decision_of of)) = by decided in
      none_not (sym (decided_new w f g some sent is (outcomes.Rollback why) at).0
      ∙ old.recorded.0 (subst (λ (x : ObjectKey). IsTrue (has_record w (place_of x) (is_decision_of x))) same stands))
    where
      by : IsDecided w told of name → IsTrue (has_record w (place_of of) (is_decision_of of))
      by (inl line) = k.recorded name of named top line
      by (inr stands) = stands

  pub one_outcome_now : NoneIsBoth v more
  one_outcome_now name of named top decided (agreed.IsClosed.rolled_back x) = elim (rolled_cases name x) [
    | inl was ↦ k.one_outcome name of named top (decided_back name of decided) (agreed.IsClosed.rolled_back was)
    | inr new ↦ back_or_decided name of named top (decided_back name of decided) new
  ]
  one_outcome_now name of named top decided (agreed.IsClosed.outlived later undecided) = undecided decided

  closed_on : (name : List ℕ) (of : ObjectKey) → IsClosed w told of name → IsClosed v more of name
  closed_on name of (agreed.IsClosed.rolled_back x) = agreed.IsClosed.rolled_back (rolled_on name x)
  closed_on name of (agreed.IsClosed.outlived later undecided) =
      agreed.IsClosed.outlived
      (record {
        server = later.server;
        named = seat_names_kept w place s (seats.left w place s n f g there up is.key slotted at_place) there refl (place_of of) ∙ later.named;
        life = later.life;
        later = later.later;
        up = tells.on _ later.up;
      })
      (λ decided. undecided (decided_back name of decided))

  -- ---- outcomes and rollbacks of families

  is_back : (o : Option Outcome) (why : Reason) → o ≡ Some (outcomes.Rollback why) → IsBack o
  is_back o why same = subst IsBack (sym same) tt

  back_stays : (o : Option Outcome) → stages.outcome f.completion ≡ o → IsBack o → IsBack (stages.outcome g.completion)
  back_stays (Some (outcomes.Rollback why)) same back = is_back _ why (is.stays (outcomes.Rollback why) same)
  back_stays (Some (outcomes.Commit basis)) same back = absurd back
  back_stays (Some outcomes.Unknown) same back = absurd back
  back_stays None same back = absurd back

  found_own : (of : ObjectKey) → IsTrue (is_of of f) → family_at w of ≡ Some f
  found_own of own_of =
      let parts = same_parts of.service of.life of.slot of.generation f.key.service f.key.life f.key.slot f.key.generation own_of in
      family_found w of f (record {
        seat = s;
        node = n;
        there = ap (slice_get w.seats) (ap (λ (x : ℕ). x - 1) parts.0 ∙ at_place) ∙ there;
        up = up;
        slotted = ap (family_in n.families) parts.2 ∙ slotted;
        own = own_of;
      })

  -- another family hasn't the key of this one
  key_other : (of : ObjectKey) (h : Family) → family_at w of ≡ Some h → (IsTrue (is_of h.key f) → ⊥) → of ≡ f.key → ⊥
  key_other of h at other same =
      let one : f ≡ h = inner (sym (found_own f.key (is_own f)) ∙ ap (family_at w) (sym same) ∙ at) in
      other (subst (λ (x : Family). IsTrue (is_of x.key f)) one (is_own f))
    where
      inner : {x y : Family} → Some x ≡ Some y → x ≡ y
      inner e = cc

  pub rolled_back_now : RollbacksAreOutcomes v more
  rolled_back_now name of h named top at back = elim (seats.families_now w place s n f g there up is.key slotted at_place of h at) [
    | inl this ↦ subst (λ (x : Family). IsBack (stages.outcome x.completion)) (sym this.0) (elim (rolled_cases name back) [
      | inl was ↦
          back_stays (stages.outcome f.completion) refl
          (k.rolled_back name of f named top (found_own of (subst (λ (x : ObjectKey). IsTrue (is_of of (record g { key = x }))) is.key this.1)) was)
      | inr new ↦ is_back _ new.0 (decided_new w f g some sent is (outcomes.Rollback new.0) new.1).1
    ])
    | inr that ↦ elim (rolled_cases name back) [
      | inl was ↦ k.rolled_back name of h named top that.0 was
      | inr new ↦ absurd (key_other of h that.0 that.1 (own_key name of new.2 named))
    ]
  ]

  why_back : (o : Option Outcome) → IsBack o → (why : Reason) × (o ≡ Some (outcomes.Rollback why))
  why_back (Some (outcomes.Rollback why)) back = (why, refl)
  why_back (Some (outcomes.Commit basis)) back = absurd back
  why_back (Some outcomes.Unknown) back = absurd back
  why_back None back = absurd back

  -- who is registered with a number has a name
  number_named : (rs : List Registration) → ((r : Registration) → Contains rs r → IsTrue (is_some (referred w r.to))) → (number : ℕ) → HasNumber rs number
      → IsTrue (is_some (name_numbered w rs number))
  number_named [] all number (r, there_r, at) = let l = there_r.1 in absurd (omega (arith, l))
  number_named (x ∷ rs) all number (r, there_r, at) =
      by (λ later. number_named rs (λ y c. all y (Contains-append_right (x ∷ []) rs y c)) number (r, later, at)) (x.index == number) refl
    where
      mapped : (o : Option NamedKey) → IsTrue (is_some o) → IsTrue (is_some (option_map (λ (y : NamedKey). y.name) o))
      mapped (Some y) is_there = refl
      mapped None is_there = absurd cc

      not_equal : x.index ≡ number → x.index == number ≡ false → ⊥
      not_equal a b = grind (arith, nat_tests)

      by : (Contains rs r → IsTrue (is_some (name_numbered w rs number))) → (t : Bool) → x.index == number ≡ t
          → IsTrue (is_some (option_map (λ (y : NamedKey). y.name) (option_and_then (λ (y : Registration). referred w y.to) (cond t (Some x) (find (λ (y : Registration). y.index == number) rs)))))
      by rest true equal = mapped (referred w x.to) (all x (0, omega arith, refl))
      by rest false other = elim (first_or_later x r rs there_r) [
        | inl here ↦ absurd (not_equal (ap (λ (y : Registration). y.index) here ∙ at) other)
        | inr later ↦ rest later
      ]

  registered_now : (number : ℕ) → HasNumber g.ballots.registrations number → IsTrue (is_some (registered w c number))
  registered_now number has_it =
      subst (λ (rs : List Registration). IsTrue (is_some (name_numbered w rs number))) (sym cast.registrations)
      (number_named f.ballots.registrations old.named number (subst (λ (rs : List Registration). HasNumber rs number) is.registrations has_it))

  named_reason : (why : Reason) → IsPlainReason why → SpeaksOf g.ballots.registrations why → IsNamedReason w c why
  named_reason (reasons.Phase (phase_reasons.Vote number)) plain of = registered_now number of
  named_reason (reasons.Phase (phase_reasons.PrepareLost number)) plain of = registered_now number of
  named_reason (reasons.Phase (phase_reasons.PrepareStarved number)) plain of = registered_now number of
  named_reason (reasons.Phase (phase_reasons.PrepareFault number)) plain of = registered_now number of
  named_reason reasons.Asked plain of = tt
  named_reason reasons.Marked plain of = tt
  named_reason reasons.Timeout plain of = tt
  named_reason (reasons.SyncLost number) plain of = absurd plain
  named_reason (reasons.SyncStarved number) plain of = absurd plain
  named_reason (reasons.Phase (phase_reasons.JournalFull used need)) plain of = tt
  named_reason reasons.NotStored plain of = tt
  named_reason reasons.Superior plain of = tt
  named_reason reasons.NotEnlisted plain of = tt

  -- where this family is rolled back, a line tells it
  told_of_this : (name : List ℕ) → IsTransaction w name f.key → IsBack (stages.outcome g.completion) → IsRolledBack more name
  told_of_this name named back = by (stages.outcome f.completion) refl (why_back (stages.outcome g.completion) back)
    where
      inner : {x y : Outcome} → Some x ≡ Some y → x ≡ y
      inner e = cc

      plain : (why : Reason) → stages.outcome f.completion ≡ None → (stages.outcome f.completion ≡ Some (outcomes.Rollback why)) ⊎ IsPlainReason why → IsPlainReason why
      plain why none (inl was) = absurd (none_not (sym none ∙ was))
      plain why none (inr plainly) = plainly

      by : (o : Option Outcome) → stages.outcome f.completion ≡ o → (why : Reason) × (stages.outcome g.completion ≡ Some (outcomes.Rollback why)) → IsRolledBack more name
      by (Some fixed) same (why, now) =
          rolled_on name (k.told_back name key f found named (is_back _ why (same ∙ ap (λ (x : Outcome). Some x) (inner (sym (is.stays fixed same) ∙ now)))))
      by None same (why, now) =
          rolled_among (all_effect_lines w c some) more name
          (λ t at. Contains-append_right told _ t (Contains-append_left (all_effect_lines w c some) (all_finished_lines entries done) t at))
          (rollback_told w c some why name (named_reason why (plain why same (is.kept.reasons why now)) (is.speaks why now)) (new_decided w f g some sent is (outcomes.Rollback why) same now)
          (named_branch w told k f c own name 0 (f.key, named, is_own f, old.top)))

  pub told_back_now : RollbacksAreTold v more
  told_back_now name of h at named back = elim (seats.families_now w place s n f g there up is.key slotted at_place of h at) [
    | inl this ↦
        let same : h.key ≡ f.key = ap (λ (x : Family). x.key) this.0 ∙ is.key in
        told_of_this name (subst (λ (x : ObjectKey). IsTransaction w name x) same named) (subst (λ (x : Family). IsBack (stages.outcome x.completion)) this.0 back)
    | inr that ↦ rolled_on name (k.told_back name of h that.0 named back)
  ]

  -- ---- the ends of subtransactions

  pub ends_once : SubtransactionsEndOnce more
  ends_once = ends_once_now w told k key f found c own early some is.turn (step.top_live w place s n f g there up slotted at_place told k key found c cast some sent is entries done) entries done

  -- nobody joins a family that asks
  no_join : (name : List ℕ) → IsAsking f.completion → JoinsNow w told k key f found c own early some is.turn entries done tells name → ⊥
  no_join name asking (b, at, same) =
      old.sound.completion.asking asking b
      (not_top w told k key f found c own early some is.turn entries done (step.top_live w place s n f g there up slotted at_place told k key found c cast some sent is entries done) b true at)
      (was_live early some f.rows b true is.turn at)

  parts : (p name : List ℕ) → TakesPart p name (known more) → TakesPart p name (known told) ⊎ JoinsNow w told k key f found c own early some is.turn entries done tells name
  parts p name part = part_cases w told k key f found c own early some is.turn entries done tells p name part

  -- ---- words

  alone_on : (name : List ℕ) → IsSent phase_words.CommitOnePhase name (known told) → IsAlone w told name → IsAlone v more name
  alone_on name out was = record {
    family = was.family;
    key = was.key;
    of_name = was.of_name;
    participant = part_among _ _ name was.family tells.on was.participant;
    only = λ p part. elim (parts p was.family part) [
      | inl before ↦ was.only p before
      | inr joins ↦ absurd (no_join was.family (asking_of joins.2 was.participant) joins)
    ];
    unrecorded = λ decided. was.unrecorded (decided_back was.family was.key decided);
  }
    where
      asking_of : was.family ≡ old.name → TakesPart name was.family (known told) → IsAsking f.completion
      asking_of same part =
          let turned = part_among (known told) (lines_of told) name old.name (among_turned (known told)) (subst (λ (x : List ℕ). TakesPart name x (known told)) same part) in
          let at = branch_joined w told k key f found turned.0 turned.2 in
          (k.open_words.one_phase name turned.0 at.0 key f (out.0, among_turned _ _ out.1) turned.1 found at.1).0

  pub one_phase_now : OnePhaseIsAlone v more
  one_phase_now name out = let before : IsSent phase_words.CommitOnePhase name (known told) = (out.0, tells.back _ refl out.1) in alone_on name before (k.one_phase name before)

  over_on : (t top : List ℕ) (of : ObjectKey) → IsClosed w told of top ⊎ IsCutOff (known told) t → IsClosed v more of top ⊎ IsCutOff (known more) t
  over_on t top of (inl closed) = inl (closed_on top of closed)
  over_on t top of (inr off) = inr (cut_among _ _ t tells.on off)

  pub rollbacks_now : RollbacksAreClosed v more
  rollbacks_now p o r out rollback leads =
      let was = k.rollbacks p o r out rollback (sym (refers o.to) ∙ leads) in
      record {
        transaction = was.transaction;
        key = was.key;
        named = was.named;
        registered = registered_among _ _ r.name was.transaction tells.on was.registered;
        top = was.top;
        family = was.family;
        over = over_on was.transaction was.top (record was.key { index = 0 }) was.over;
      }

  pub open_now : ToldIsOpen v (lines_of more)
  open_now = record {
    commit = λ x t b of h out registered at branch. commit_of x t b of h (out.0, back_turned _ refl out.1) (registered.0, back_turned _ refl registered.1)
        (seats.families_now w place s n f g there up is.key slotted at_place of h at) branch;
    one_phase = λ x t b of h out registered at branch. one_of x t b of h (out.0, back_turned _ refl out.1) (registered.0, back_turned _ refl registered.1)
        (seats.families_now w place s n f g there up is.key slotted at_place of h at) branch;
  }
    where
      back_turned : (line : Line) → is_effect line ≡ false → Stands line (lines_of more) → Stands line (lines_of told)
      back_turned line other x = step.back w place s n f g there up slotted at_place told k key found c cast some sent is entries done line other x

      this_branch : (h : Family) (t : List ℕ) (b : ℕ) → h ≡ g → IsBranch v h t b → IsBranch w f t b
      this_branch h t b same (branch, named, of, first) =
          (branch, named, subst (λ (x : ObjectKey). IsTrue (is_of branch (record g { key = x }))) is.key (subst (λ (x : Family). IsTrue (is_of branch x)) same of), first)

      commit_of : (x t : List ℕ) (b : ℕ) (of : ObjectKey) (h : Family) → IsSent phase_words.Commit x (lines_of told) → IsRegistered x t (lines_of told)
          → ((h ≡ g) × IsTrue (is_of of g)) ⊎ ((family_at w of ≡ Some h) × (IsTrue (is_of h.key f) → ⊥)) → IsBranch v h t b
          → stages.outcome h.completion ≡ Some (outcomes.Commit Record)
      commit_of x t b of h out registered (inl this) branch =
          ap (λ (y : Family). stages.outcome y.completion) this.0
          ∙ is.stays (outcomes.Commit Record) (k.open_words.commit x t b key f out registered found (this_branch h t b this.0 branch))
      commit_of x t b of h out registered (inr that) branch = k.open_words.commit x t b of h out registered that.0 branch

      one_of : (x t : List ℕ) (b : ℕ) (of : ObjectKey) (h : Family) → IsSent phase_words.CommitOnePhase x (lines_of told) → IsRegistered x t (lines_of told)
          → ((h ≡ g) × IsTrue (is_of of g)) ⊎ ((family_at w of ≡ Some h) × (IsTrue (is_of h.key f) → ⊥)) → IsBranch v h t b
          → IsAsking h.completion × (stages.decides_alone h.completion ≡ true)
      one_of x t b of h out registered (inl this) branch =
          let was = k.open_words.one_phase x t b key f out registered found (this_branch h t b this.0 branch) in
          subst (λ (y : Family). IsAsking y.completion × (stages.decides_alone y.completion ≡ true)) (sym this.0) (is.kept.decides was.0 was.1)
      one_of x t b of h out registered (inr that) branch = k.open_words.one_phase x t b of h out registered that.0 branch

  -- ---- records

  -- a participant is registered
  participant_registered : (r : Registration) → Contains (participants 0 f.ballots) r → Contains f.ballots.registrations r
  participant_registered r at = all_at (Contains f.ballots.registrations) (participants 0 f.ballots) r (registered_of f 0) at

  consented_on : (p : List ℕ) → HasConsented p (known told) → HasConsented p (known more)
  consented_on p (inl x) = inl (tells.on _ x)
  consented_on p (inr x) = inr (tells.on _ x)

  -- where its record stands, this family has decided
  decided_by : (p life slot generation : ℕ) (by : Option RetryKey) (asked : Bool) (regs : List Named) (rs : List JournalRecord) → records_at w p ≡ Some rs
      → Contains rs (Decision life slot generation by asked regs) → recorded_key p life slot generation ≡ f.key
      → stages.outcome f.completion ≡ Some (outcomes.Commit Record)
  decided_by p life slot generation by asked regs rs held at named =
      let stands : IsTrue (has_record w p (is_decision_of f.key)) =
      ap (λ (o : Option (List JournalRecord)). option_map_or (λ (x : List JournalRecord). list_any (is_decision_of f.key) x) o false) held
      ∙ any_of (is_decision_of f.key) rs _ at (own_decision life slot generation f.key (ap (λ (x : ObjectKey). x.life) named) (ap (λ (x : ObjectKey). x.slot) named)
      (ap (λ (x : ObjectKey). x.generation) named)) in
      let here : place_of f.key ≡ p = sym (ap place_of named) ∙ place_again p in
      old.recorded.0 (subst (λ (x : ℕ). IsTrue (has_record w x (is_decision_of f.key))) (sym here) stands)
    where
      place_again : (p : ℕ) → (p + 1) - 1 ≡ p
      place_again p = omega arith

      own_decision : (life slot generation : ℕ) (of : ObjectKey) → life ≡ of.life → slot ≡ of.slot → generation ≡ of.generation
          → (life == of.life && slot == of.slot && generation == of.generation) ≡ true
      own_decision life slot generation of a b d = grind (arith, nat_tests)

  -- the record of this family stands where it asks
  record_asks : (p life slot generation : ℕ) (by : Option RetryKey) (asked : Bool) (regs : List Named) (rs : List JournalRecord) → records_at w p ≡ Some rs
      → Contains rs (Decision life slot generation by asked regs) → (rests : RestsOnVotes w told (recorded_key p life slot generation) regs)
      → rests.name ≡ old.name → IsAsking f.completion
  record_asks p life slot generation by asked regs rs held at rests same =
      let named : recorded_key p life slot generation ≡ f.key = inner (sym rests.of_name ∙ ap (thing w) same ∙ old.of_name) in
      commits_asking f.completion (decided_by p life slot generation by asked regs rs held at named)
    where
      inner : {x y : ObjectKey} → Some (things.Transaction x) ≡ Some (things.Transaction y) → x ≡ y
      inner e = cc

  rests_on : (p life slot generation : ℕ) (by : Option RetryKey) (asked : Bool) (regs : List Named) (rs : List JournalRecord) → records_at w p ≡ Some rs
      → Contains rs (Decision life slot generation by asked regs) → RestsOnVotes w told (recorded_key p life slot generation) regs
      → RestsOnVotes v more (recorded_key p life slot generation) regs
  rests_on p life slot generation by asked regs rs held at_record was = record {
    name = was.name;
    of_name = was.of_name;
    consented = λ x part. consented_on x (was.consented x (part_was x part));
    named = λ to leads. ap is_some (refers to) ∙ was.named to leads;
    voters = λ to r leads.
        let before = was.voters to r (sym (refers to) ∙ leads) in (
          λ names. (part_among _ _ r.name was.name tells.on (before.0 names).0, tells.on _ (before.0 names).1),
          λ voter. before.1 (part_was r.name voter.0, vote_was r.name (part_was r.name voter.0) voter.1),
        );
    once = was.once;
  }
    where
      part_was : (x : List ℕ) → TakesPart x was.name (known more) → TakesPart x was.name (known told)
      part_was x part = elim (parts x was.name part) [
        | inl before ↦ before
        | inr joins ↦ absurd (no_join was.name (record_asks p life slot generation by asked regs rs held at_record was joins.2) joins)
      ]

      -- nobody votes whose family has decided
      vote_was : (x : List ℕ) → TakesPart x was.name (known told) → Stands (lines.Voted x VoteCommit) (known more) → Stands (lines.Voted x VoteCommit) (known told)
      vote_was x part y = elim (cases (lines.Voted x VoteCommit) y) [
        | inl before ↦ before
        | inr (e, happened, (number, same, named)) ↦
            let who = who_is w told k key f found c cast number x named in
            let heard = is.heard number VoteCommit (among e _ same happened) in
            let this = one_index w told k key f found c cast heard.r who.r (participant_registered heard.r heard.there) who.there (heard.index ∙ sym who.index) in
            let at = participant_of w told k key f found heard.r who.object heard.there (ap (λ (z : Registration). referred w z.to) this ∙ who.leads) in
            let mine = subst (λ (z : List ℕ). IsRegistered z at.0 (lines_of told)) who.named at.2 in
            let turned = part_among (known told) (lines_of told) x was.name (among_turned (known told)) part in
            let same_t = k.names.one_transaction x at.0 turned.0 mine turned.1 in
            let named_t : IsTransaction w turned.0 at.1.0 = subst (λ (z : List ℕ). IsTransaction w z at.1.0) same_t at.1.1 in
            let top = of_key w told k was.name turned.0 at.1.0 (joined_of (lines_of told) was.name turned.0 turned.2) named_t in
            let is_key : recorded_key p life slot generation ≡ f.key = inner (sym was.of_name ∙ top) ∙ first_key w told k key f found at.0 heard.r.branch at.1 in
            absurd (none_not (sym heard.undecided ∙ decided_by p life slot generation by asked regs rs held at_record is_key))
      ]
        where
          inner : {a b : ObjectKey} → Some (things.Transaction a) ≡ Some (things.Transaction b) → a ≡ b
          inner z = cc

  pub records_rest : RecordsRestOnVotes v more
  records_rest p life slot generation by asked regs rs held at =
      let before = sym (records p) ∙ held in
      rests_on p life slot generation by asked regs rs before at (k.records p life slot generation by asked regs rs before at)

  -- ---- transactions

  pub transactions_now : TransactionsAreKnown v more
  transactions_now = record {
    seated = λ name of named. elim (set_at w.seats place s (seats.left w place s n f g there up is.key slotted at_place) (place_of of) there) [
      | inl here ↦ ap is_some here.1
      | inr same ↦ ap is_some same ∙ k.transactions.seated name of named
    ];
    lives = λ name of rs named held. k.transactions.lives name of rs named (sym (records (place_of of)) ∙ held);
    decided = λ name outcome line. elim (cases (lines.Decide name outcome) line) [
      | inl was ↦ k.transactions.decided name outcome was
      | inr new ↦ named_now name new.2.2
    ];
    rolled_back = λ name back. elim (rolled_cases name back) [
      | inl was ↦ k.transactions.rolled_back name was
      | inr new ↦ named_now name new.2
    ];
  }
    where
      named_now : (name : List ℕ) → branch_name w c 0 ≡ Some name → (of : ObjectKey) × IsTransaction w name of
      named_now name named = let branch = branch_named w told k key f found c own 0 name named in (branch.0, branch.1)
