-- One thing after another: what is told, in which turn, and what goes out.
use Rattle.std.proofs.Common.{◌≡◌, ◌≢◌, ◌==◌, ℕ, ◌+◌, List, [], ◌∷◌, ◌++◌, Bool, true, false, if◌then◌else◌, Option, Some, None, refl, ap, sym, subst, ◌∙◌}
use Rattle.std.specs.List.{AllByRecursion}
use Rattle.ots_model.specs.declared.completion.Receipt.{Receipt}
use Rattle.ots_model.specs.Numbered.{Outcome}
use Rattle.ots_model.specs.declared.tree.Outward.{Outward}
use Rattle.ots_model.specs.declared.tree.Word.{Word}
use Rattle.ots_model.specs.declared.tree.Word.TheVariants as words
use Rattle.txn_tree.specs.Calls.{ended, marked}
use Rattle.txn_tree.specs.Rows.{is_live_branch, parent}
use Rattle.txn_tree.specs.declared.row.Row.{Row}
use Rattle.resource_votes.specs.Ballots.{Ballots}
use Rattle.two_phase.specs.Stages as stages
use Rattle.two_phase.specs.Stages.{Standing}
use Rattle.coordinator.specs.declared.call.Stage.TheVariants.{Finishing}
use Rattle.coordinator.specs.declared.effect.Effect.{Effect}
use Rattle.coordinator.specs.declared.effect.Effect.TheVariants as effects
use Rattle.coordinator.specs.declared.said.Said.{Said}
use Rattle.coordinator.specs.Family.{Family, Call}
use Rattle.coordinator.specs.Moves.{Moved, Notice, only, ◌▹◌, outward, sends, ends_call, fixed_now, completes_as}
use Rattle.coordinator.specs.Closing.{waits}
use Rattle.coordinator.specs.Phases.{is_before}
use Rattle.family_laws.specs.LawsOfSteps.{IsOpenParent, MayEnd, EndInTurn, Rests}
use Rattle.family_laws.specs.LawsOfTelling.{rows_told}
use Rattle.family_laws.specs.Sound.{IsSoundFamily}
use Rattle.family_laws.proofs.Seats.{But, Takes, put_back, put_away}

-- ---- what is told

open_earlier : (early later : Bool) → (later ≡ true → early ≡ true) → (t : Bool) (live : Bool) → (if t then later else live) ≡ true → (if t then early else live) ≡ true
open_earlier early later m true live h = m h
open_earlier early later m false live h = h

parent_earlier : (early later : Bool) → (later ≡ true → early ≡ true) → (rs : List Row) (o : Option ℕ) → IsOpenParent later rs o → IsOpenParent early rs o
parent_earlier early later m rs None h = h
parent_earlier early later m rs (Some p) h = open_earlier early later m (p == 0) (is_live_branch rs p) h

end_earlier : (early later : Bool) → (later ≡ true → early ≡ true) → (rs : List Row) (b : ℕ) (committed : Bool) → MayEnd later rs b committed → MayEnd early rs b committed
end_earlier early later m rs b true h = (h.0, parent_earlier early later m rs (parent rs b) h.1)
end_earlier early later m rs b false h = h

turn_earlier : (early later : Bool) → (later ≡ true → early ≡ true) → (rs : List Row) (some : List Effect) → EndInTurn later some rs → EndInTurn early some rs
turn_earlier early later m rs [] h = h
turn_earlier early later m rs (effects.Voted g vote ∷ some) h = turn_earlier early later m rs some h
turn_earlier early later m rs (effects.Decided fixed ∷ some) h = turn_earlier early later m rs some h
turn_earlier early later m rs (effects.SubtransactionEnded b committed ∷ some) h = (end_earlier early later m rs b committed h.0, turn_earlier early later m (ended rs b committed) some h.1)
turn_earlier early later m rs (effects.Marked b ∷ some) h = (h.0, turn_earlier early later m (marked rs b) some h.1)
turn_earlier early later m rs (effects.Doubted ∷ some) h = turn_earlier early later m rs some h
turn_earlier early later m rs (effects.Done ∷ some) h = turn_earlier early later m rs some h

turn_joined : (early later : Bool) → (later ≡ true → early ≡ true) → (rs : List Row) (some others : List Effect) → EndInTurn early some rs → EndInTurn later others (rows_told some rs)
    → EndInTurn early (some ++ others) rs
turn_joined early later m rs [] others h k = turn_earlier early later m rs others k
turn_joined early later m rs (effects.Voted g vote ∷ some) others h k = turn_joined early later m rs some others h k
turn_joined early later m rs (effects.Decided fixed ∷ some) others h k = turn_joined early later m rs some others h k
turn_joined early later m rs (effects.SubtransactionEnded b committed ∷ some) others h k = (h.0, turn_joined early later m (ended rs b committed) some others h.1 k)
turn_joined early later m rs (effects.Marked b ∷ some) others h k = (h.0, turn_joined early later m (marked rs b) some others h.1 k)
turn_joined early later m rs (effects.Doubted ∷ some) others h k = turn_joined early later m rs some others h k
turn_joined early later m rs (effects.Done ∷ some) others h k = turn_joined early later m rs some others h k

pub told_joined : (rs : List Row) (some others : List Effect) → rows_told (some ++ others) rs ≡ rows_told others (rows_told some rs)
told_joined rs [] others = refl
told_joined rs (effects.Voted g vote ∷ some) others = told_joined rs some others
told_joined rs (effects.Decided fixed ∷ some) others = told_joined rs some others
told_joined rs (effects.SubtransactionEnded b committed ∷ some) others = told_joined (ended rs b committed) some others
told_joined rs (effects.Marked b ∷ some) others = told_joined (marked rs b) some others
told_joined rs (effects.Doubted ∷ some) others = told_joined rs some others
told_joined rs (effects.Done ∷ some) others = told_joined rs some others

-- ---- what a rule leaves

-- where a step began with these rows: a sound family, subtransactions that end in turn, and words that rest on something
pub record IsFine (early : Bool) (rs : List Row) (m : Moved) : Type 0 where
  pub sound : IsSoundFamily m.family
  pub turn : EndInTurn early m.effects rs
  pub rests : AllByRecursion (Rests m.family.completion m.family.ballots m.family.rows) m.words

abbrev pub Fine : Family → Moved → Type 0
Fine f m = IsFine (is_before f.stage) f.rows m

-- nothing goes out, and the rows are as they were told
pub record IsQuiet (early : Bool) (rs : List Row) (m : Moved) : Type 0 where
  pub stage : is_before m.family.stage ≡ true → early ≡ true
  pub rows : m.family.rows ≡ rows_told m.effects rs
  pub turn : EndInTurn early m.effects rs
  pub silent : m.words ≡ []

abbrev pub Quiet : Family → Moved → Type 0
Quiet f m = IsQuiet (is_before f.stage) f.rows m

pub chained : (early : Bool) (rs : List Row) (first : Moved) (next : Family → Moved) → IsQuiet early rs first → Fine first.family (next first.family) → IsFine early rs (first ▹ next)
chained early rs first next q h =
    let after : Moved = next first.family in
    record {
      sound = h.sound;
      turn = turn_joined early (is_before first.family.stage) q.stage rs first.effects after.effects q.turn
          (subst (λ (xs : List Row). EndInTurn (is_before first.family.stage) after.effects xs) q.rows h.turn);
      rests = subst (λ (ws : List Outward). AllByRecursion (Rests after.family.completion after.family.ballots after.family.rows) (ws ++ after.words)) (sym q.silent) h.rests;
    }

pub quietly : (early : Bool) (rs : List Row) (first : Moved) (next : Family → Moved) → IsQuiet early rs first → Quiet first.family (next first.family) → IsQuiet early rs (first ▹ next)
quietly early rs first next q h =
    let after : Moved = next first.family in
    record {
      stage = λ e. q.stage (h.stage e);
      rows = h.rows ∙ ap (λ (xs : List Row). rows_told after.effects xs) q.rows ∙ sym (told_joined rs first.effects after.effects);
      turn = turn_joined early (is_before first.family.stage) q.stage rs first.effects after.effects q.turn
          (subst (λ (xs : List Row). EndInTurn (is_before first.family.stage) after.effects xs) q.rows h.turn);
      silent = subst (λ (ws : List Outward). ws ++ after.words ≡ []) (sym q.silent) h.silent;
    }

-- sound, and quiet
pub record IsCalm (early : Bool) (rs : List Row) (m : Moved) : Type 0 where
  pub sound : IsSoundFamily m.family
  pub quiet : IsQuiet early rs m

abbrev pub Calm : Family → Moved → Type 0
Calm f m = IsCalm (is_before f.stage) f.rows m

pub calmly : (early : Bool) (rs : List Row) (first : Moved) (next : Family → Moved) → IsQuiet early rs first → Calm first.family (next first.family) → IsCalm early rs (first ▹ next)
calmly early rs first next q h = record { sound = h.sound; quiet = quietly early rs first next q h.quiet }

pub fine_of : (early : Bool) (rs : List Row) (m : Moved) → IsCalm early rs m → IsFine early rs m
fine_of early rs m h = record {
  sound = h.sound;
  turn = h.quiet.turn;
  rests = subst (λ (ws : List Outward). AllByRecursion (Rests m.family.completion m.family.ballots m.family.rows) ws) (sym h.quiet.silent) tt;
}

pub either : (early : Bool) (rs : List Row) (t : Bool) (x y : Moved) → (t ≡ true → IsFine early rs x) → (t ≡ false → IsFine early rs y) → IsFine early rs (if t then x else y)
either early rs true x y h k = h refl
either early rs false x y h k = k refl

pub either_calm : (early : Bool) (rs : List Row) (t : Bool) (x y : Moved) → (t ≡ true → IsCalm early rs x) → (t ≡ false → IsCalm early rs y) → IsCalm early rs (if t then x else y)
either_calm early rs true x y h k = h refl
either_calm early rs false x y h k = k refl

pub only_calm : (f : Family) → IsSoundFamily f → Calm f (only f)
only_calm f h = record { sound = h; quiet = record { stage = λ e. e; rows = refl; turn = tt; silent = refl } }

pub only_fine : (f : Family) → IsSoundFamily f → Fine f (only f)
only_fine f h = record { sound = h; turn = tt; rests = tt }

-- ---- what is told of a completion has nothing of rows

pub fixed_turn : (early : Bool) (rs : List Row) (o p : Option Outcome) → EndInTurn early (fixed_now o p) rs
fixed_turn early rs None None = tt
fixed_turn early rs None (Some fixed) = tt
fixed_turn early rs (Some fixed) p = tt

pub fixed_rows : (rs : List Row) (o p : Option Outcome) → rs ≡ rows_told (fixed_now o p) rs
fixed_rows rs None None = refl
fixed_rows rs None (Some fixed) = refl
fixed_rows rs (Some fixed) p = refl

pub completes_quiet : (later : Standing) (f : Family) → Quiet f (completes_as later f)
unfolding completes_as
completes_quiet later f = record {
  stage = λ e. e;
  rows = fixed_rows f.rows (stages.outcome f.completion) (stages.outcome later);
  turn = fixed_turn (is_before f.stage) f.rows (stages.outcome f.completion) (stages.outcome later);
  silent = refl;
}

-- ---- a call waits, sends a word, or ends

pub waits_fine : (b : ℕ) (c : Call) (f : Family) → But b f → Takes b c f → Fine f (waits b c f)
waits_fine b c f h t = record { sound = put_back b c f h t; turn = tt; rests = tt }

pub sends_fine : (early : Bool) (rs : List Row) (b : ℕ) (c : Call) (n : Notice) (r : Option Receipt) (f : Family) → But b f → Takes b c f → Rests f.completion f.ballots f.rows (outward f n r)
    → IsFine early rs (sends b c n r f)
unfolding sends
sends_fine early rs b c n r f h t w = record { sound = put_back b (record c { out = Some (f.serial + 1) }) f h t; turn = tt; rests = (w, tt) }

pub ends_fine : (early : Bool) (rs : List Row) (b : ℕ) (c : Call) (answer : Said) (f : Family) → But b f → (b ≡ 0 → f.stage ≢ Finishing) → IsFine early rs (ends_call b c answer f)
unfolding ends_call
ends_fine early rs b c answer f h n = record { sound = put_away b f h n; turn = tt; rests = tt }

-- ---- words that are none of the two phases

abbrev pub IsSoft : Word → Type 0
IsSoft words.RollbackSub = Unit {0}
IsSoft (words.CommitSub above) = Unit {0}
IsSoft words.BeforeCompletion = Unit {0}
IsSoft (words.AfterCompletion status) = Unit {0}
IsSoft words.Forget = Unit {0}
IsSoft _ = ⊥

pub soft_rests : (s : Standing) (some : Ballots) (rs : List Row) (o : Outward) → IsSoft o.word → Rests s some rs o
soft_rests s some rs o h = record {
  back = λ e. absurd (subst IsSoft e h);
  asks = record { prepare = λ e. absurd (subst IsSoft e h); alone = λ e. absurd (subst IsSoft e h); commit = λ e. absurd (subst IsSoft e h) };
}
