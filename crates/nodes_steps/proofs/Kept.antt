-- What a line of a script gives, by its deed, and what it keeps.
use Rattle.std.proofs.Common.{◌≡◌, ◌⊎◌, inl, inr, ℕ, ◌≤◌, nat_lt, Bool, true, false, List, [], ◌++◌, length, Option, Some, None, refl, sym, ap, subst, ◌∙◌, append-nil, arith}
use Rattle.std.proofs.lemmas.Bool.Decides.{nat_tests}
use Rattle.ots_model.specs.Safe.{AreSafe}
use Rattle.ots_world.specs.declared.script.ScriptEvent.{ScriptEvent}
use Rattle.nodes_world.specs.declared.deed.Deed.{Deed}
use Rattle.nodes_world.specs.Agreement.{Agreement, GivesName, GoesOnFrom, Reaches, ReachedOutcomesLast, further}
use Rattle.nodes_world.specs.Changes.{DeedsAreChanges}
use Rattle.nodes_world.specs.Happenings.{Done}
use Rattle.nodes_world.specs.Limits.{message_limit}
use Rattle.nodes_world.specs.Resolve.{resolve}
use Rattle.nodes_world.specs.Step.{Stepped, Moves, Passes, Names, carried_out, carries_named, carries_unless, limit_before, limit_behind, limit_where, moves_unless, step}
use Rattle.nodes_world.specs.Told.{Told, known}
use Rattle.nodes_world.specs.World.{World}
use Rattle.nodes_steps.proofs.Fronts.{front_safe}
use Rattle.nodes_steps.specs.Steps.{CanGoOn, IsDone, Keeps, Lasts, LinesKeepAgreement, lines_by}
use Rattle.nodes_steps.proofs.Journals.{last_safe}
use Rattle.nodes_steps.proofs.Named.{named_goes}

-- ---- what a line gives

abbrev Gives : ScriptEvent → World → Stepped → Type 0
Gives event w (Moves to) = IsDone event w to × GoesOnFrom to.world
Gives event w (Passes limit lines) = (lines ≡ []) ⊎ ((to : Done) × IsDone event w to × (lines ≡ to.lines))
Gives event w Names = Unit {0}

-- no limit is passed
few_behind : (many limit told : ℕ) → limit_where (nat_lt limit many) told ≡ None → many ≤ limit
few_behind many limit told is = by (nat_lt limit many) refl is
  where
    by : (b : Bool) → nat_lt limit many ≡ b → limit_where b told ≡ None → many ≤ limit
    by true more is = absurd cc
    by false less is = grind (arith, nat_tests, less)

gives : (event : ScriptEvent) (w : World) → Gives event w (step event w)
unfolding step
gives event w = by (resolve event w) refl
  where
    done : (deed : Deed) → resolve event w ≡ Some deed → limit_before deed w ≡ None → IsDone event w (carried_out deed w)
    done deed named unlimited = record { deed = deed; named = named; unlimited = unlimited; is = refl }

    behind : (deed : Deed) (limit : Option ℕ) → IsDone event w (carried_out deed w) → limit_behind (carried_out deed w) ≡ limit
        → Gives event w (moves_unless limit (carried_out deed w))
    behind deed (Some limit) is passed = inr (carried_out deed w, is, refl)
    behind deed None is passed = (is, few_behind (length (carried_out deed w).world.messages) message_limit message_limit passed)

    before : (deed : Deed) (limit : Option ℕ) → resolve event w ≡ Some deed → limit_before deed w ≡ limit
        → Gives event w (carries_unless limit (carried_out deed w))
    before deed (Some limit) named passed = inl refl
    before deed None named passed = behind deed (limit_behind (carried_out deed w)) (done deed named passed) refl

    by : (found : Option Deed) → resolve event w ≡ found → Gives event w (carries_named found w)
    by (Some deed) named = before deed (limit_before deed w) named refl
    by None named = tt

given : (event : ScriptEvent) (w : World) (s : Stepped) → step event w ≡ s → Gives event w s
given event w s is = subst (Gives event w) is (gives event w)

-- ---- what a line keeps

module _ (agree : Agreement) (last : ReachedOutcomesLast) (changes : DeedsAreChanges) where
  deed_reached : (event : ScriptEvent) (w : World) (told : List Told) (to : Done) → GivesName event → CanGoOn w told → IsDone event w to
      → Reaches to.world (told ++ to.lines)
  deed_reached event w told to fit h d =
      subst (λ (x : Done). Reaches x.world (told ++ x.lines)) (sym d.is)
      (further w told event d.deed h.reached h.few fit d.named d.unlimited)

  deed_lasts : (event : ScriptEvent) (w : World) (told : List Told) (to : Done) → GivesName event → CanGoOn w told → IsDone event w to
      → Lasts w to.world told (told ++ to.lines)
  deed_lasts event w told to fit h d =
      subst (λ (x : Done). Lasts w x.world told (told ++ x.lines)) (sym d.is) (record {
        named = λ name named there. named_goes w (carried_out d.deed w).world name named (changes event d.deed w d.named) there;
        outcomes = last w told event d.deed h.reached h.few fit d.named d.unlimited;
      })

  still_safe : (w : World) (told some : List Told) → Reaches w told → some ≡ [] → AreSafe (known (told ++ some))
  still_safe w told some reached none =
      subst (λ (all : List Told). AreSafe (known all)) (sym (ap (λ ls. told ++ ls) none ∙ append-nil told)) (agree w told reached)

  deed_safe : (event : ScriptEvent) (w : World) (told some : List Told) (to : Done) → GivesName event → CanGoOn w told → IsDone event w to
      → some ≡ to.lines → AreSafe (known (told ++ some))
  deed_safe event w told some to fit h d same =
      subst (λ (ls : List Told). AreSafe (known (told ++ ls))) (sym same)
      (agree to.world (told ++ to.lines) (deed_reached event w told to fit h d))

  given_safe : (event : ScriptEvent) (w : World) (told : List Told) (s : Stepped) → GivesName event → CanGoOn w told → Gives event w s
      → AreSafe (known (told ++ lines_by s))
  given_safe event w told (Moves to) fit h g = deed_safe event w told to.lines to fit h g.0 refl
  given_safe event w told (Passes limit lines) fit h (inl none) = still_safe w told lines h.reached none
  given_safe event w told (Passes limit lines) fit h (inr d) = deed_safe event w told lines d.0 fit h d.1 d.2
  given_safe event w told Names fit h g = still_safe w told [] h.reached refl

  line_keeps : (event : ScriptEvent) (w : World) (told : List Told) → GivesName event → CanGoOn w told → Keeps event w told
  line_keeps event w told fit h = record {
    reached = λ to d. deed_reached event w told to fit h d;
    goes_on = λ to is.
        let g = given event w (Moves to) is in record { reached = deed_reached event w told to fit h g.0; few = g.1 };
    lasts = λ to is. let g = given event w (Moves to) is in deed_lasts event w told to fit h g.0;
    safe = given_safe event w told (step event w) fit h (gives event w);
  }

  pub lines_keep : LinesKeepAgreement
  lines_keep = record {
    moves = λ event w to is. let g = given event w (Moves to) is in g.0;
    passes = λ event w limit lines is. given event w (Passes limit lines) is;
    keeps = line_keeps;
    ends = λ w told reached. last_safe w told (agree w told reached);
    fronts = front_safe;
  }
