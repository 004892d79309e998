-- The rules by which a call under way goes on, by their cases.
use Rattle.std.proofs.Common.{◌≡◌, ◌∙◌, refl, ap, sym, ℕ, zero, suc, ◌==◌, ◌&&◌, ◌+◌, ◌<◌, ◌≤◌, Bool, true, false, not, List, [], ◌∷◌, ◌++◌, drop, length, slice_set, Option, Some, None, arith, if◌then◌else◌}
use Rattle.std.specs.List.{slice_get}
use Rattle.std.specs.Option.{option_and_then, option_map_or}
use Rattle.std.proofs.lemmas.List.{length-set}
use Rattle.txn_tree.specs.Calls.{ended, live_under}
use Rattle.coordinator.specs.Family.{Family, Call, Aim, Duty, call_at, with_call}
use Rattle.coordinator.specs.declared.call.Leg.TheVariants.{Below, Own}
use Rattle.coordinator.specs.declared.call.Stage.{Stage}
use Rattle.coordinator.specs.Moves.{Moved, only, after, ◌▹◌, sends}
use Rattle.coordinator.specs.Phases.{has_parent_ended}
use Rattle.family_rules.specs.Calls.{has_left, left_at, told_in}
use Rattle.family_rules.specs.Changes.{DraftParts, so_far}
use Rattle.coordinator.specs.Table.{new_call}
use Rattle.coordinator.specs.Closing.{waits}
use Rattle.coordinator.specs.Running.{is_held, runs, runs_call, goes_on, tells_first, by_leg, sweeps, sweeps_next, ends_below, duties_below, passes, passes_top, tells_own, own_duties, own_ends, commits_up, adopter, is_commit, is_below, has_some, duty_notice}
use Rattle.family_rules.proofs.Moving.{brings_nothing, chained, does_as}

pub runs_held : (b : ℕ) (c : Call) (f : Family) → is_held b c f ≡ true → waits b c f ≡ runs b c f
unfolding runs
runs_held b c f h = sym (ap (λ (x : Bool). if x then waits b c f else tells_first c.left b c (by_leg c.leg b c) f) h)

pub runs_free : (b : ℕ) (c : Call) (f : Family) → is_held b c f ≡ false → tells_first c.left b c (by_leg c.leg b c) f ≡ runs b c f
unfolding runs
runs_free b c f h = sym (ap (λ (x : Bool). if x then waits b c f else tells_first c.left b c (by_leg c.leg b c) f) h)

pub goes_on_by : (b : ℕ) (o : Option Call) (f : Family) → call_at f b ≡ o → runs_call o b f ≡ goes_on b f
unfolding goes_on
goes_on_by b o f h = sym (ap (λ (x : Option Call). runs_call x b f) h)

pub tells_by : (ds es : List Duty) (b : ℕ) (c : Call) (next : Family → Moved) (f : Family) → ds ≡ es → tells_first ds b c next f ≡ tells_first es b c next f
tells_by ds es b c next f h = ap (λ (x : List Duty). tells_first x b c next f) h

pub passes_by : (s : Stage) (c : Call) (f : Family) → f.stage ≡ s → passes_top s c f ≡ passes 0 c f
unfolding passes
passes_by s c f h = ap (λ (x : Stage). passes_top x c f) (sym h)

pub passes_own : (b : ℕ) (c : Call) (f : Family) → (b == 0) ≡ false → tells_own b c f ≡ passes b c f
unfolding passes
passes_own b c f h = sym (ap (λ (x : Bool). if x then passes_top f.stage c f else tells_own b c f) h)

pub swept : (n b : ℕ) (c : Call) (f : Family) → live_under f.rows b ≡ None → passes b c f ≡ sweeps n b c f
unfolding sweeps
swept zero b c f h = refl
swept (suc n) b c f h = sym (ap (λ (o : Option ℕ). sweeps_next o b c (sweeps n b c) f) h)

pub swept_all : (b : ℕ) (c : Call) (f : Family) → passes b c f ≡ sweeps zero b c f
unfolding sweeps
swept_all b c f = refl

pub sweeps_one : (n b d : ℕ) (c : Call) (f : Family) → live_under f.rows b ≡ Some d
    → (ends_below d f ▹ tells_first (duties_below d f) b c (sweeps n b c)) ≡ sweeps (suc n) b c f
unfolding sweeps
sweeps_one n b d c f h = sym (ap (λ (o : Option ℕ). sweeps_next o b c (sweeps n b c) f) h)

pub tells_own_by : (ds : List Duty) (b : ℕ) (c : Call) (f : Family) → own_duties c.aim b f ≡ ds
    → tells_first ds b (record c { leg = Own }) (own_ends c.aim b (record c { leg = Own })) f ≡ tells_own b c f
unfolding tells_own
tells_own_by ds b c f h = ap (λ (x : List Duty). tells_first x b (record c { leg = Own }) (own_ends c.aim b (record c { leg = Own })) f) (sym h)

pub commits_by : (o : Option ℕ) (b : ℕ) (c : Call) (f : Family) → adopter f.rows b ≡ o → commits_up b o c f ≡ commits_up b (adopter f.rows b) c f
commits_by o b c f h = ap (λ (x : Option ℕ). commits_up b x c f) (sym h)

-- what is written over itself stays
pub set_same : {A : Type 0} (xs : List A) (b : ℕ) (x : A) → slice_get xs b ≡ Some x → slice_set xs b x ≡ xs
set_same [] b x h = refl
set_same {A = A} (y ∷ xs) zero x h = let e : y ≡ x = cc (h) in ap (λ (z : A). z ∷ xs) (sym e)
set_same {A = A} (y ∷ xs) (suc b) x h = ap (λ (zs : List A). y ∷ zs) (set_same xs b x h)

kept_call : (o : Option (Option Call)) (c : Call) → option_and_then (λ (x : Option Call). x) o ≡ Some c → o ≡ Some (Some c)
kept_call None c h = absurd (cc (h))
kept_call (Some x) c h = ap (λ (y : Option Call). Some y) h

-- a call that is kept as it was changes nothing
pub waits_on : (b : ℕ) (c : Call) (f : Family) → call_at f b ≡ Some c → only f ≡ waits b c f
waits_on b c f h =
    ap (λ (cs : List (Option Call)). only (record f { calls = cs })) (sym (set_same f.calls b (Some c) (kept_call (slice_get f.calls b) c h)))

-- ---- a call under way goes on

pub held_is : (f : Family) (b : ℕ) (k : Call) → call_at f b ≡ Some k
    → (is_commit k.aim && has_parent_ended f b && not (is_below k.leg && has_left f b)) ≡ is_held b k f
unfolding is_held
held_is f b k at =
    ap (λ (o : Option Call). is_commit k.aim && has_parent_ended f b && not (is_below k.leg && has_some (option_map_or (λ (c : Call). c.left) o []))) at

pub stays_put : (f : Family) (d : DraftParts) (b : ℕ) → call_at f b ≡ None → so_far f d ≡ after (so_far f d) (goes_on b f)
stays_put f d b none = does_as f f d d only (goes_on b) (brings_nothing f f f d d refl refl) (goes_on_by b None f none)

pub go_held : (f : Family) (d : DraftParts) (b : ℕ) (k : Call) → call_at f b ≡ Some k → is_held b k f ≡ true → so_far f d ≡ after (so_far f d) (goes_on b f)
go_held f d b k at held =
    does_as f f d d only (goes_on b) (brings_nothing f f f d d refl refl) (waits_on b k f at ∙ (runs_held b k f held ∙ goes_on_by b (Some k) f at))

pub go_tells : (f h : Family) (d e : DraftParts) (b : ℕ) (k : Call) (duty : Duty) (others : List Duty) → call_at f b ≡ Some k → is_held b k f ≡ false
    → k.left ≡ duty ∷ others → so_far h e ≡ after (so_far f d) (sends b (record k { left = others }) (duty_notice duty) None f)
    → so_far h e ≡ after (so_far f d) (goes_on b f)
go_tells f h d e b k duty others at free left does =
    does_as f h d e (sends b (record k { left = others }) (duty_notice duty) None) (goes_on b) does
    (tells_by (duty ∷ others) k.left b k (by_leg k.leg b k) f (sym left) ∙ (runs_free b k f free ∙ goes_on_by b (Some k) f at))

pub go_legs : (f h : Family) (d e : DraftParts) (b : ℕ) (k : Call) → call_at f b ≡ Some k → is_held b k f ≡ false
    → k.left ≡ [] → so_far h e ≡ after (so_far f d) (by_leg k.leg b k f) → so_far h e ≡ after (so_far f d) (goes_on b f)
go_legs f h d e b k at free left does =
    does_as f h d e (by_leg k.leg b k) (goes_on b) does
    (tells_by [] k.left b k (by_leg k.leg b k) f (sym left) ∙ (runs_free b k f free ∙ goes_on_by b (Some k) f at))

-- what a call has left, from its first on
pub split_first : (ds : List Duty) (d : Duty) → slice_get ds 0 ≡ Some d → ds ≡ d ∷ drop 1 ds
split_first [] d is = absurd (cc (is))
split_first (x ∷ ds) d is = let e : x ≡ d = cc (is) in ap (λ (y : Duty). y ∷ ds) e

pub none_first : (ds : List Duty) → slice_get ds 0 ≡ None → ds ≡ []
none_first [] is = refl
none_first (x ∷ ds) is = absurd (cc (is))

pub left_of_call : (f : Family) (b : ℕ) (k : Call) → call_at f b ≡ Some k → left_at f b ≡ k.left
left_of_call f b k at = ap (λ (o : Option Call). option_map_or (λ (c : Call). c.left) o []) at

put_at : (cs : List (Option Call)) (b : ℕ) (k c : Call) → slice_get cs b ≡ Some (Some k) → slice_get (slice_set cs b (Some c)) b ≡ Some (Some c)
put_at [] b k c is = absurd (cc (is))
put_at (x ∷ cs) zero k c is = refl
put_at (x ∷ cs) (suc b) k c is = put_at cs b k c is

-- a call that is put in the place of another is there
pub call_put : (f : Family) (b : ℕ) (k c : Call) → call_at f b ≡ Some k → call_at (with_call b c f) b ≡ Some c
call_put f b k c at =
    ap (λ (o : Option (Option Call)). option_and_then (λ (x : Option Call). x) o) (put_at f.calls b k c (kept_call (slice_get f.calls b) k at))

-- a call that had nothing left to tell is as it was
pub untold : (f g : Family) (b : ℕ) (k : Call) → call_at f b ≡ Some k → g ≡ told_in (call_at f b) b f → k.left ≡ [] → g ≡ f
untold f g b k at is none =
    is
    ∙ (ap (λ (o : Option Call). told_in o b f) at
    ∙ (ap (λ (ds : List Duty). with_call b (record k { left = drop 1 ds }) f) none
    ∙ (ap (λ (ds : List Duty). with_call b (record k { left = ds }) f) (sym none) ∙ sym (ap (λ (m : Moved). m.family) (waits_on b k f at)))))

-- ---- a call begins

and_true : (x : Bool) → x ≡ (x && true)
and_true true = refl
and_true false = refl

pub new_held : (b : ℕ) (caller : Option ℕ) (aim : Aim) (f : Family) → (is_commit aim && has_parent_ended f b) ≡ is_held b (new_call caller aim) f
unfolding is_held
new_held b caller aim f = and_true (is_commit aim && has_parent_ended f b)

pub begins_held : (b : ℕ) (caller : Option ℕ) (aim : Aim) (f : Family) → (is_commit aim && has_parent_ended f b) ≡ true
    → waits b (new_call caller aim) f ≡ runs b (new_call caller aim) f
begins_held b caller aim f held = runs_held b (new_call caller aim) f (sym (new_held b caller aim f) ∙ held)

pub begins_free : (b : ℕ) (caller : Option ℕ) (aim : Aim) (f : Family) → (is_commit aim && has_parent_ended f b) ≡ false
    → by_leg Below b (new_call caller aim) f ≡ runs b (new_call caller aim) f
begins_free b caller aim f free = runs_free b (new_call caller aim) f (sym (new_held b caller aim f) ∙ free)

-- ---- live subtransactions are rolled back

-- the rest stays where a subtransaction below ends
pub record EndsBelow (f g : Family) (d e : DraftParts) : Type 0 where
  pub rows : length g.rows ≡ length f.rows
  pub serial : g.serial ≡ f.serial
  pub entries : g.entries ≡ f.entries
  pub words : e.changes.words ≡ d.changes.words ++ []

pub ends : (f g : Family) (d e : DraftParts) (b : ℕ) → so_far g e ≡ after (so_far f d) (ends_below b f) → EndsBelow f g d e
unfolding ends_below
ends f g d e b does =
    let k : length (ended f.rows b false) ≡ length f.rows = simp length-set in
    record {
      rows = ap (λ (m : Moved). length m.family.rows) does ∙ k;
      serial = ap (λ (m : Moved). m.family.serial) does;
      entries = ap (λ (m : Moved). m.family.entries) does;
      words = ap (λ (m : Moved). m.words) does;
    }

-- one is rolled back that has nothing to tell
pub sweeps_on : (f g : Family) (d e : DraftParts) (n m b below : ℕ) (c : Call) → live_under f.rows b ≡ Some below → n ≡ suc m
    → so_far g e ≡ after (so_far f d) (ends_below below f) → duties_below below f ≡ []
    → (so_far g e ▹ sweeps m b c) ≡ (so_far f d ▹ sweeps n b c)
sweeps_on f g d e n m b below c live is ended none =
    ap (λ (x : Moved). x ▹ sweeps m b c) ended
    ∙ (chained (so_far f d) (ends_below below) (sweeps m b c)
    ∙ ap (λ (x : Moved). after (so_far f d) x)
    (ap (λ (ds : List Duty). ends_below below f ▹ tells_first ds b c (sweeps m b c)) (sym none)
    ∙ (sweeps_one m b below c f live ∙ ap (λ (k : ℕ). sweeps k b c f) (sym is))))

-- one is rolled back, and the first of its duties is told
pub sweeps_tells : (f g h : Family) (d e k : DraftParts) (n m b below : ℕ) (c : Call) (duty : Duty) (others : List Duty) → live_under f.rows b ≡ Some below → n ≡ suc m
    → so_far g e ≡ after (so_far f d) (ends_below below f) → duties_below below f ≡ duty ∷ others
    → so_far h k ≡ after (so_far g e) (sends b (record c { left = others }) (duty_notice duty) None g)
    → so_far h k ≡ (so_far f d ▹ sweeps n b c)
sweeps_tells f g h d e k n m b below c duty others live is ended some told =
    told
    ∙ (ap (λ (x : Moved). x ▹ sends b (record c { left = others }) (duty_notice duty) None) ended
    ∙ (chained (so_far f d) (ends_below below) (sends b (record c { left = others }) (duty_notice duty) None)
    ∙ ap (λ (x : Moved). after (so_far f d) x)
    (ap (λ (ds : List Duty). ends_below below f ▹ tells_first ds b c (sweeps m b c)) (sym some)
    ∙ (sweeps_one m b below c f live ∙ ap (λ (i : ℕ). sweeps i b c f) (sym is)))))

-- none is live
pub sweeps_past : (f h : Family) (d k : DraftParts) (n b : ℕ) (c : Call) → live_under f.rows b ≡ None
    → so_far h k ≡ after (so_far f d) (passes b c f) → so_far h k ≡ (so_far f d ▹ sweeps n b c)
sweeps_past f h d k n b c none does = does_as f h d k (passes b c) (sweeps n b c) does (swept n b c f none)

pub sweeps_out : (f h : Family) (d k : DraftParts) (n b : ℕ) (c : Call) → n ≡ 0
    → so_far h k ≡ after (so_far f d) (passes b c f) → so_far h k ≡ (so_far f d ▹ sweeps n b c)
sweeps_out f h d k n b c zero_left does =
    does_as f h d k (passes b c) (sweeps n b c) does (swept_all b c f ∙ ap (λ (i : ℕ). sweeps i b c f) (sym zero_left))
