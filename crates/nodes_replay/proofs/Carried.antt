-- A line of a script is carried out, once its deed is.
use Rattle.std.proofs.Common.{◌≡◌, ℕ, Bool, true, false, List, [], Option, Some, None, Result, Ok, Err, refl, sym, ap, subst, ◌∙◌, ⊎_elim}
use Rattle.std.proofs.lemmas.List.{append-nil}
use Rattle.ots_world.specs.declared.fault.WorldFault.{WorldFault}
use Rattle.ots_world.specs.declared.fault.WorldFault.TheVariants as faults
use Rattle.ots_world.specs.declared.script.ScriptEvent.{ScriptEvent}
use Rattle.ots_world.specs.declared.script.ScriptEvent.TheVariants as events
use Rattle.nodes_world.specs.declared.deed.Deed.{Deed}
use Rattle.nodes_world.specs.declared.deed.Deed.TheVariants as deeds
use Rattle.nodes_world.specs.Happenings.{Done}
use Rattle.nodes_world.specs.Resolve.{resolve}
use Rattle.nodes_world.specs.Step.{Names, carried_out, carries, carries_named, carries_unless, limit_before, limit_behind, moves_unless, step}
use Rattle.nodes_world.specs.World.{World}
use Rattle.nodes_state.specs.Telling.{TellsPart}
use Rattle.nodes_resolve.specs.Lines.{IsAnswered}
use Rattle.nodes_replay.specs.Carrying.{CarriesLine}
use Rattle.nodes_replay.specs.Quiet.{IsQuiet, IsQuietDeed}

-- ---- a deed

-- memory ran out midway, whatever the limit
starves : (limit : Option ℕ) (d : Done) (old new : World) (before after : List ℕ) → TellsPart d.lines before after
    → CarriesLine (moves_unless limit d) old new before after (Err faults.Memory)
starves (Some n) d old new before after part = part
starves None d old new before after part = part

none_part : (before after : List ℕ) → after ≡ before → TellsPart [] before after
none_part before after same = (0, same ∙ sym (append-nil before))

-- ---- a line

answered_deed : (keeps : Bool) (found : Option Deed) (deed : Deed) → IsAnswered keeps found (Ok deed) → found ≡ Some deed
answered_deed keeps None deed a = absurd cc
answered_deed false (Some other) deed a = ap Some (cc (a))
answered_deed true (Some other) deed a = ⊎_elim (λ is. ap Some (cc (is))) (λ is. absurd cc) a

-- the line has a deed, and that is carried out
pub line_carried : (keeps : Bool) (event : ScriptEvent) (deed : Deed) (w new : World) (before after : List ℕ) (r : Result (Unit {0}) WorldFault)
    → IsAnswered keeps (resolve event w) (Ok deed) → CarriesLine (carries deed w) w new before after r
    → CarriesLine (step event w) w new before after r
unfolding step
line_carried keeps event deed w new before after r a c =
    subst (λ (o : Option Deed). CarriesLine (carries_named o w) w new before after r) (sym (answered_deed keeps (resolve event w) deed a)) c

-- it has none; or memory ran out for what is kept of it
starved : (limit : Option ℕ) (d : Done) (w : World) (text : List ℕ) → CarriesLine (carries_unless limit d) w w text text (Err faults.Memory)
starved (Some n) d w text = none_part text text refl
starved None d w text = starves (limit_behind d) d w w text text (0, sym (append-nil text))

pub line_refused : (keeps : Bool) (event : ScriptEvent) (fault : WorldFault) (w : World) (text : List ℕ)
    → IsAnswered keeps (resolve event w) (Err fault) → CarriesLine (step event w) w w text text (Err fault)
unfolding step
line_refused keeps event fault w text a = by keeps (resolve event w) a
  where
    by : (b : Bool) (o : Option Deed) → IsAnswered b o (Err fault) → CarriesLine (carries_named o w) w w text text (Err fault)
    by b None a = let is : faults.Names ≡ fault = cc (a) in subst (λ (f : WorldFault). CarriesLine Names w w text text (Err f)) is (refl, refl)
    by false (Some deed) a = absurd cc
    by true (Some deed) a =
        ⊎_elim (λ is. absurd cc)
        (λ is. let same : faults.Memory ≡ fault = cc (is) in
        subst (λ (f : WorldFault). CarriesLine (carries deed w) w w text text (Err f)) same (starved (limit_before deed w) (carried_out deed w) w text)) a

-- a flow is a line of its own deed, whatever the world
pub flow_carried : (event : ScriptEvent) (count : ℕ) (w new : World) (before after : List ℕ) (r : Result (Unit {0}) WorldFault)
    → event ≡ events.Flow count → CarriesLine (carries (deeds.Flow count) w) w new before after r
    → CarriesLine (step event w) w new before after r
unfolding step resolve
flow_carried event count w new before after r is c =
    subst (λ (e : ScriptEvent). CarriesLine (step e w) w new before after r) (sym is) c

pub flow_quiet : (event : ScriptEvent) (count : ℕ) (w : World) → event ≡ events.Flow count → IsQuiet event w → IsQuietDeed (deeds.Flow count) w
unfolding resolve
flow_quiet event count w is q = q.deed (deeds.Flow count) (ap (λ (e : ScriptEvent). resolve e w) is)
