-- A resource that obeys commit has voted commit, and stores its updates.
use Rattle.std.proofs.Common.{◌≡◌, ℕ, ◌+◌, ◌==◌, Bool, true, cond, find, List, Option, Some, None, refl, sym, ap, subst, ◌∙◌, arith}
use Rattle.std.specs.Option.{option_and_then}
use Rattle.std.proofs.lemmas.Bool.Decides.{nat_tests}
use Rattle.ior_refs.specs.declared.key.ObjectKey.{ObjectKey}
use Rattle.ots_model.specs.Safe.{IsSent}
use Rattle.ots_model.specs.declared.completion.Word.TheVariants as phase_words
use Rattle.ots_model.specs.declared.line.Line.{Line}
use Rattle.ots_model.specs.declared.tree.Outward.{Outward}
use Rattle.ots_model.specs.declared.tree.Word.{Word}
use Rattle.ots_model.specs.declared.tree.Word.TheVariants as words
use Rattle.resource_end.specs.Table.{row}
use Rattle.resource_end.specs.declared.state.State.{State}
use Rattle.resource_end.specs.declared.state.State.TheVariants as states
use Rattle.resource_end.specs.declared.state.Word.TheVariants as tolds
use Rattle.nodes_world.specs.Agreement.{IsWord, StatesFollow}
use Rattle.nodes_world.specs.AgreementInside.{HasVotedCommit, Known, ResourceIsKnown, phase_of}
use Rattle.nodes_world.specs.AgreementSteps.{StepsStayKnown}
use Rattle.nodes_world.specs.Ends.{obeys, obeys_as, obeys_row, with_resource, with_resource_at}
use Rattle.nodes_world.specs.Happenings.{Done, nothing, replies}
use Rattle.nodes_world.specs.Objects.{place_of}
use Rattle.nodes_world.specs.OverForGood.{CommitsAreStored, IsAt}
use Rattle.nodes_world.specs.Told.{Told}
use Rattle.nodes_world.specs.World.{World, Seat, OfEnd, FlatEnd, FlatResource, NamedKey, end_at, end_in, has_number, referred, resource_at, with_server}
use Rattle.nodes_world.proofs.Going.{EndIsUp, end_is_up, get_set, on_seat_there}
use Rattle.nodes_world.proofs.KnownLines.{lines_of}
use Rattle.nodes_world.proofs.KnownTouch.{found_kept}
use Rattle.nodes_world.proofs.KnownWords.{resource_of, sent_of, told_commit, voter_stands}
use Rattle.nodes_world.proofs.Reaching.{known_reached}

-- a resource that was put in place of the one of its key is there
turned_there : (w : World) (key : ObjectKey) (r next : FlatResource) → resource_at w key ≡ Some r → next.key ≡ r.key
    → resource_at (with_resource_at key next w) key ≡ Some next
unfolding with_resource_at resource_at end_at
turned_there w key r next there same = by (end_at w (place_of key)) refl there
  where
    own : has_number next.key r ≡ true
    own = ap (λ (k : ObjectKey). r.key.generation == k.generation) same ∙ itself r.key.generation
      where
        itself : (n : ℕ) → (n == n) ≡ true
        itself n = grind (arith, nat_tests)

    by : (o : Option FlatEnd) → end_at w (place_of key) ≡ o → option_and_then (λ (e : FlatEnd). find (has_number key) e.resources) o ≡ Some r
        → resource_at (elim o as (λ _. World) [ Some e ↦ with_server (place_of key) (OfEnd (Some (with_resource next e))) w | None ↦ w ]) key ≡ Some next
    by (Some e) up is =
        let at : EndIsUp w (place_of key) e = end_is_up w (place_of key) e up in
        let turned : Seat = record at.seat { server = OfEnd (Some (with_resource next e)) } in
        subst (λ (v : World). resource_at v key ≡ Some next)
        (sym (on_seat_there (place_of key) (λ (x : Seat). record x { server = OfEnd (Some (with_resource next e)) }) w at.seat at.there))
        (ap (λ (o : Option Seat). option_and_then (λ (z : FlatEnd). find (has_number key) z.resources) (option_and_then (λ (x : Seat). end_in x.server) o))
        (get_set w.seats (place_of key) at.seat turned at.there)
        ∙ found_kept key next e.resources r is
        ∙ ap (λ (b : Bool). Some (cond b next r)) own)
    by None up is = absurd cc

abbrev IsStored : World → ObjectKey → Type 0
IsStored w key = IsAt (λ (s : State). s ≡ states.Applied) w key

-- by its row for commit
stored_by : (w : World) (request : ℕ) (x : NamedKey) (r : FlatResource) (h : List Line) (s : State) → resource_at w x.key ≡ Some r → r.state ≡ s
    → HasVotedCommit s x.name h → (s ≡ states.Undone → ⊥) → IsStored (obeys_row request x r (row tolds.Commit s) w).world x.key
unfolding replies resource_at end_at
stored_by w request x r h states.Prepared there is voted not_dropped =
    let next : FlatResource = record r { state = states.Applied } in
    record { resource = next; there = turned_there w x.key r next there refl; so = refl }
stored_by w request x r h states.Applied there is voted not_dropped = record { resource = r; there = there; so = is }
stored_by w request x r h states.Undone there is voted not_dropped = absurd (not_dropped refl)
stored_by w request x r h states.Fresh there is voted not_dropped = absurd voted
stored_by w request x r h states.Working there is voted not_dropped = absurd voted
stored_by w request x r h states.Refused there is voted not_dropped = absurd voted
stored_by w request x r h states.ChoseCommit there is voted not_dropped = absurd voted
stored_by w request x r h states.ChoseRollback there is voted not_dropped = absurd voted
stored_by w request x r h states.Forgotten there is voted not_dropped = absurd voted

pub stored : (w : World) (told : List Told) → Known w told → (nth place : ℕ) (o : Outward) (x : NamedKey) → IsWord w nth place o → o.word ≡ words.Phase phase_words.Commit
    → referred w o.to ≡ Some x → IsStored (obeys (nth + 1) o w).world x.key
unfolding obeys
stored w told k nth place o x word commit refers =
    subst (λ (q : Option NamedKey). IsStored (elim q as (λ _. Done) [ Some y ↦ obeys_as (resource_at w y.key) (nth + 1) y o.word w | None ↦ nothing w ]).world x.key)
    (sym refers)
    (subst (λ (q : Option FlatResource). IsStored (obeys_as q (nth + 1) x o.word w).world x.key) (sym at.1)
    (subst (λ (y : Word). IsStored (obeys_as (Some at.0) (nth + 1) x y w).world x.key) (sym commit)
    (stored_by w (nth + 1) x at.0 (lines_of told) at.0.state at.1 refl voted not_dropped)))
  where
    at : (r : FlatResource) × (resource_at w x.key ≡ Some r) × ResourceIsKnown w (lines_of told) x.name r
    at = resource_of w told k o.to x refers

    sent : IsSent phase_words.Commit x.name (lines_of told)
    sent = sent_of w told k place o phase_words.Commit x (nth, word) (ap phase_of commit) refers

    voted : HasVotedCommit at.0.state x.name (lines_of told)
    voted = voter_stands w told k x.name at.0 at.2 (told_commit w told k x.name sent).2

    not_dropped : at.0.state ≡ states.Undone → ⊥
    not_dropped is = subst (λ (s : State). StatesFollow s x.name (lines_of told)) is at.2.follows sent

pub commits_are_stored : StepsStayKnown → CommitsAreStored
commits_are_stored keeps w told nth place o x reached word commit refers =
    stored w told (known_reached keeps w told reached) nth place o x word commit refers
