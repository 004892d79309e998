-- The answer to the word of a call, by how far the call has come.
use Rattle.std.proofs.Common.{◌≡◌, ◌∙◌, refl, ap, sym, ℕ, Bool, true, false, Option, Some, None, if◌then◌else◌}
use Rattle.ots_model.specs.declared.completion.CallNumber.{CallNumber}
use Rattle.ots_model.specs.declared.tree.Heard.{Heard}
use Rattle.family_rules.specs.Calls.{deciding_in}
use Rattle.family_rules.specs.Changes.{DraftParts, so_far}
use Rattle.coordinator.specs.Closing.{asked_of, begins, gives_up, rolling_back}
use Rattle.coordinator.specs.Family.{Family, Call, Aim, call_at, with_call}
use Rattle.coordinator.specs.declared.call.Leg.TheVariants.{Deciding}
use Rattle.coordinator.specs.Hearing.{hears_at, is_plain, reason_of, told, told_before}
use Rattle.coordinator.specs.Moves.{Moved, only, after}
use Rattle.coordinator.specs.Step.{hears_call}
use Rattle.family_rules.proofs.Moving.{brings_nothing}

pub heard_by : (f g h : Family) (d e : DraftParts) (b : ℕ) (k : Call) (n : CallNumber) (heard : Heard) (rule : Family → Moved) → call_at f b ≡ Some k
    → g ≡ with_call b (record k { out = None }) f → rule g ≡ told k.leg n b (record k { out = None }) heard g
    → so_far h e ≡ after (so_far g d) (rule g) → so_far h e ≡ after (so_far f d) (hears_call (call_at f b) b n heard f)
unfolding hears_at
heard_by f g h d e b k n heard rule at put same does =
    does
    ∙ (ap (λ (m : Moved). after (so_far g d) m) same
    ∙ (ap (λ (x : Family). after (so_far f d) (told k.leg n b (record k { out = None }) heard x)) put
    ∙ ap (λ (o : Option Call). after (so_far f d) (hears_call o b n heard f)) (sym at)))

pub nobody_hears : (f : Family) (d : DraftParts) (b : ℕ) (n : CallNumber) (heard : Heard) → call_at f b ≡ None
    → so_far f d ≡ after (so_far f d) (hears_call (call_at f b) b n heard f)
nobody_hears f d b n heard none =
    brings_nothing f f f d d refl refl ∙ ap (λ (o : Option Call). after (so_far f d) (hears_call o b n heard f)) (sym none)

pub plainly : (f : Family) (d : DraftParts) (b called : ℕ) (c : Call) (heard : Heard) → is_plain heard ≡ true
    → so_far f d ≡ after (so_far f d) (told_before b called c heard f)
unfolding told_before
plainly f d b called c heard plain =
    brings_nothing f f f d d refl refl
    ∙ ap (λ (x : Bool). after (so_far f d) (if x then only f else gives_up (reason_of called heard) c (with_call b (record c { leg = Deciding }) f))) (sym plain)

pub given_up : (f g h : Family) (d e : DraftParts) (b called : ℕ) (c : Call) (aim : Aim) (heard : Heard) → is_plain heard ≡ false
    → call_at f b ≡ Some c → c.aim ≡ aim → g ≡ deciding_in (call_at f b) b f
    → so_far h e ≡ after (so_far g d) (begins (rolling_back (asked_of aim) (reason_of called heard) g) g)
    → so_far h e ≡ after (so_far f d) (told_before b called c heard f)
unfolding told_before
given_up f g h d e b called c aim heard rough at for to does =
    does
    ∙ (ap (λ (a : Aim). after (so_far g d) (begins (rolling_back (asked_of a) (reason_of called heard) g) g)) (sym for)
    ∙ (ap (λ (x : Family). after (so_far f d) (begins (rolling_back (asked_of c.aim) (reason_of called heard) x) x)) (to ∙ ap (λ (o : Option Call). deciding_in o b f) at)
    ∙ ap (λ (x : Bool). after (so_far f d) (if x then only f else gives_up (reason_of called heard) c (with_call b (record c { leg = Deciding }) f))) (sym rough)))
