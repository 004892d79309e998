-- A call that goes on leaves a sound family: subtransactions that are rolled back below its transaction, and its own end.
use Rattle.std.proofs.Common.{◌≡◌, ◌≢◌, ◌⊎◌, ◌==◌, ◌&&◌, not, inl, inr, ℕ, ◌<◌, ◌≤◌, zero, suc, List, [], ◌∷◌, ◌++◌, length, map, Bool, true, false, if◌then◌else◌, Option, Some, None, Contains, is_some, refl, ap, sym, subst, ◌∙◌, arith}
use Rattle.std.specs.List.{AllByRecursion, filter_map}
use Rattle.std.specs.Prelude.{slice_set}
use Rattle.std.proofs.lemmas.List.{get_or-set_other}
use Rattle.std.specs.Option.{option_map_or}
use Rattle.ots_model.specs.Numbered.{Outcome}
use Rattle.txn_tree.specs.Rows.{IsTree, IsParent, parent, is_live_branch}
use Rattle.txn_tree.specs.Calls.{ended, live_under}
use Rattle.txn_tree.specs.declared.row.Row.{Row}
use Rattle.txn_tree.specs.declared.row.State.TheVariants.{Committed, RolledBack}
use Rattle.resource_votes.specs.Ballots.{Ballots, participants, adopted, numbered}
use Rattle.resource_votes.specs.Lists.{list_at}
use Rattle.resource_votes.specs.declared.registration.Registration.{Registration}
use Rattle.two_phase.specs.Stages as stages
use Rattle.coordinator.specs.declared.call.Ending.{Ending}
use Rattle.coordinator.specs.declared.call.Ending.TheVariants.{TellsRollback, TellsCommit, RollsBackUpdates}
use Rattle.coordinator.specs.declared.call.Leg.{Leg}
use Rattle.coordinator.specs.declared.call.Leg.TheVariants.{Below, Own, Before, Deciding, After}
use Rattle.coordinator.specs.declared.call.Stage.{Stage}
use Rattle.coordinator.specs.declared.call.Stage.TheVariants.{Going, Finishing, Completing, Over}
use Rattle.coordinator.specs.declared.effect.Effect.TheVariants as effects
use Rattle.coordinator.specs.declared.said.Said.{Said}
use Rattle.coordinator.specs.declared.said.Said.TheVariants as said
use Rattle.coordinator.specs.Family.{Family, Aim, Call, Duty, Commits, RollsBack, call_at}
use Rattle.coordinator.specs.Moves.{Moved, outward, shows, ends_call}
use Rattle.coordinator.specs.Closing.{notice_to, before}
use Rattle.coordinator.specs.Phases.{is_before, has_ended, has_parent_ended}
use Rattle.coordinator.specs.Running.{aware_of, duty_to, undo_duties, commit_duties, word_of, duty_notice, tells_first, commits_up, adopter, own_ends, own_duties, tells_own, passes_top, passes, left_below, left_by, ends_below, duties_below, sweeps_next, sweeps, is_commit, is_below, has_some, is_held, tells_after, by_leg, runs, runs_call, goes_on}
use Rattle.family_laws.specs.LawsOfSteps.{MayEnd, Rests}
use Rattle.family_laws.specs.Sound.{NoneLive, IsSoundLists, IsSoundCompletion, IsInStage, IsPastBelow, IsOfSub, IsListed, IsDue, IsSoundCall, IsSoundFamily, called}
use Rattle.family_laws.specs.Trees.{IsUpTo, IsCutOff}
use Rattle.family_laws.specs.LawsBelow.{Laws}
use Rattle.family_laws.proofs.Changes.{Listed, lists_with, lists_committed, completion_rows, completion_parties, completion_waiting}
use Rattle.family_laws.proofs.Ending.{IsAlone, all_at, top_call, afterwards_fine, decides_fine, before_fine}
use Rattle.family_laws.proofs.Listed.{all_listed, adopted_listed}
use Rattle.family_laws.proofs.Lists.{all_joined, all_both, all_of, all_under, all_there}
use Rattle.family_laws.proofs.Seats.{But, Takes, taken_up, called_other, called_same, call_kept, due_kept, none_live_kept, set_length}
use Rattle.family_laws.proofs.Trees.{same_or_not, live_open, live_other, live_before, cut_stays, cut_here, cut_below, up_open, up_top, state_other, live_within, IsLaterLive, next_live, none_live, count_live, few_live, one_less, no_live}
use Rattle.family_laws.proofs.Turns.{Fine, Quiet, chained, either, only_fine, waits_fine, sends_fine, ends_fine, soft_rests}

-- ---- a duty is told

duty_rests : (f : Family) (e : Ending) (r : Registration) → IsDue f.rows f.ballots (record { ending = e; resource = r })
    → Rests f.completion f.ballots f.rows (outward f (notice_to (word_of e) r) None)
duty_rests f TellsRollback r due = soft_rests f.completion f.ballots f.rows _ tt
duty_rests f (TellsCommit above) r due = soft_rests f.completion f.ballots f.rows _ tt
duty_rests f RollsBackUpdates r due = record {
  back = λ e.
      let listed : IsListed f.ballots r = (due refl).0 in
      record {
        r = r;
        there = all_at (Contains f.ballots.registrations) (participants listed.branch f.ballots) r (all_there listed.branch f.ballots) listed.there;
        listed = listed;
        number = refl;
        reference = refl;
        over = inr (due refl).1;
      };
  asks = record { prepare = λ e. absurd (cc e); alone = λ e. absurd (cc e); commit = λ e. absurd (cc e) };
}

pub tells_first_fine : (ds : List Duty) (b : ℕ) (c : Call) (next : Family → Moved) (f : Family) → But b f
    → IsSoundCall f.stage f.rows f.ballots b c.aim c.leg ds → (ds ≡ [] → Fine f (next f)) → Fine f (tells_first ds b c next f)
tells_first_fine [] b c next f h t fine = fine refl
tells_first_fine (d ∷ others) b c next f h t fine =
    sends_fine (is_before f.stage) f.rows b (record c { left = others }) (duty_notice d) None f h
    (record { top = t.top; sub = t.sub; dues = t.dues.1 }) (duty_rests f d.ending d.resource t.dues.0)

told_dues : (rs : List Row) (some : Ballots) (e : Ending) → e ≢ RollsBackUpdates → (xs : List Registration) → AllByRecursion (IsDue rs some) (map (duty_to e) xs)
told_dues rs some e n xs = all_under (IsDue rs some) (duty_to e) xs (all_of (λ (r : Registration). IsDue rs some (duty_to e r)) (λ r i. absurd (n i)) xs)

-- the list of one that is cut off is
undo_dues : (rs : List Row) (some : Ballots) (b : ℕ) → IsCutOff rs b → IsSoundLists rs some → AllByRecursion (IsDue rs some) (undo_duties some b)
unfolding undo_duties
undo_dues rs some b cut h =
    all_joined (IsDue rs some) (map (duty_to TellsRollback) (aware_of some b)) (map (duty_to RollsBackUpdates) (participants b some))
    (told_dues rs some TellsRollback (λ e. absurd (cc e)) (aware_of some b))
    (all_under (IsDue rs some) (duty_to RollsBackUpdates) (participants b some)
    (all_both (IsListed some) (Listed rs b) (λ (r : Registration). IsDue rs some (duty_to RollsBackUpdates r))
    (λ r there u e. (there, cut_below rs b r.branch cut u)) (participants b some) (all_listed b some) (h.listed b)))

-- ---- a subtransaction is committed

either_open : (t a b : Bool) → (if t then not a else not b) ≡ false → (if t then a else b) ≡ true
either_open true true b h = refl
either_open true false b h = absurd (cc h)
either_open false a true h = refl
either_open false a false h = absurd (cc h)

pub top_parent : (rs : List Row) → IsTree rs → parent rs 0 ≡ None
top_parent rs t = go (parent rs 0) (t.parents 0 t.some)
  where
    go : (o : Option ℕ) → IsParent 0 o → o ≡ None
    go None h = refl
    go (Some p) h = absurd (omega (arith, h))

zero_same : (p : ℕ) → p ≢ 0 → (p == 0) ≡ false
zero_same p n = grind arith

-- a parent that has not ended: the top-level transaction before it asks, or a live subtransaction
open_parent : (f : Family) (p : ℕ) → has_ended f p ≡ false → ((p ≡ 0) × (is_before f.stage ≡ true)) ⊎ ((p ≢ 0) × (is_live_branch f.rows p ≡ true))
open_parent f p h =
    elim (same_or_not p 0) [
      | inl e ↦ inl (e, rw e at (either_open (p == 0) (is_before f.stage) (is_live_branch f.rows p) h))
      | inr n ↦ inr (n, rw (zero_same p n) at (either_open (p == 0) (is_before f.stage) (is_live_branch f.rows p) h))
    ]

joined : ℕ → ℕ → Family → Family
joined b p f = record f { rows = ended f.rows b true; ballots = adopted b p f.ballots }

-- nothing is committed above such a parent
nothing_above : Laws → (f : Family) (b p : ℕ) → IsTree f.rows → p ≢ b → ((p ≡ 0) × (is_before f.stage ≡ true)) ⊎ ((p ≢ 0) × (is_live_branch f.rows p ≡ true))
    → (x : ℕ) → IsUpTo (ended f.rows b true) x p → p ≡ x
nothing_above law f b p t n (inl z) x u = up_top (ended f.rows b true) x p (rw z.0 (((law.keep f.rows b).with_a_state Committed).parents 0 ∙ top_parent f.rows t)) u
nothing_above law f b p t n (inr l) x u = up_open (ended f.rows b true) x p (λ e. live_open f.rows p l.1 (sym (state_other f.rows b Committed p n) ∙ e)) u

joined_completion : (f : Family) (b p : ℕ) → is_live_branch f.rows b ≡ true → b ≢ 0 → ((p ≡ 0) × (is_before f.stage ≡ true)) ⊎ ((p ≢ 0) × (is_live_branch f.rows p ≡ true))
    → IsSoundCompletion f.stage f.rows f.ballots f.completion → IsSoundCompletion f.stage (ended f.rows b true) (adopted b p f.ballots) f.completion
joined_completion f b p live n (inl z) h = completion_waiting f.stage f.stage f.rows (ended f.rows b true) f.ballots (adopted b p f.ballots) f.completion z.1 z.1 h
joined_completion f b p live n (inr l) h =
    completion_parties f.stage (ended f.rows b true) f.ballots (adopted b p f.ballots) f.completion (elsewhere (λ e. l.0 (sym e)))
    (completion_rows f.stage f.rows (ended f.rows b true) f.ballots f.completion (none_live_kept f.rows (ended f.rows b true) (live_before f.rows b Committed live)) h)
  where
    elsewhere : 0 ≢ p → participants 0 (adopted b p f.ballots) ≡ participants 0 f.ballots
    elsewhere o = ap (λ (xs : List ℕ). filter_map (numbered f.ballots.registrations) xs)
        (get_or-set_other (slice_set f.ballots.lists b []) p 0 (list_at f.ballots.lists p ++ list_at f.ballots.lists b) [] o
        ∙ get_or-set_other f.ballots.lists b 0 [] [] (λ e. n (sym e)))

joined_but : Laws → (f : Family) (b p : ℕ) → is_live_branch f.rows b ≡ true → b ≢ 0 → parent f.rows b ≡ Some p → has_ended f p ≡ false → But b f → But b (joined b p f)
unfolding joined
joined_but law f b p live n is unended h =
    let under : p < b = law.earlier f.rows h.lists.tree b p (live_within f.rows b live) is in
    let other : p ≢ b = λ e. absurd (omega (arith, under, e)) in
    let how = open_parent f p unended in
    record {
      lists = lists_committed law f.rows f.ballots b p live is other (nothing_above law f b p h.lists.tree other how)
          (live_other f.rows b Committed 0 (λ e. n (sym e)) ∙ h.lists.top) h.lists;
      completion = joined_completion f b p live n how h.completion;
      as_many = h.as_many ∙ sym (((law.keep f.rows b).with_a_state Committed).count);
      others = λ d c o e. call_kept f.stage f.rows (ended f.rows b true) f.ballots (adopted b p f.ballots) d c.aim c.leg c.left
          (λ l. live_other f.rows b Committed d o ∙ l) (cut_stays law f.rows b Committed live)
          (none_live_kept f.rows (ended f.rows b true) (live_before f.rows b Committed live)) (adopted_listed f.ballots b p under) (h.others d c o e);
      finishing = h.finishing;
    }

parent_ended : (f : Family) (b p : ℕ) → parent f.rows b ≡ Some p → has_parent_ended f b ≡ false → has_ended f p ≡ false
parent_ended f b p is h = sym (ap (λ (o : Option ℕ). option_map_or (has_ended f) o false) is) ∙ h

may_commit : (f : Family) (b p : ℕ) → parent f.rows b ≡ Some p → is_live_branch f.rows b ≡ true → has_ended f p ≡ false → MayEnd (is_before f.stage) f.rows b true
may_commit f b p is live unended = (live, rw is (either_open (p == 0) (is_before f.stage) (is_live_branch f.rows p) unended))

commits_up_fine : Laws → (b : ℕ) (o : Option ℕ) → (c : Call) (f : Family) → parent f.rows b ≡ o → b ≢ 0 → is_live_branch f.rows b ≡ true → has_parent_ended f b ≡ false → But b f → Takes b c f → Fine f (commits_up b o c f)
unfolding commits_up joined
commits_up_fine law b None c f is n live unended h t = waits_fine b c f h t
commits_up_fine law b (Some p) c f is n live unended h t =
    let opened : has_ended f p ≡ false = parent_ended f b p is unended in
    chained (is_before f.stage) f.rows (shows (effects.SubtransactionEnded b true ∷ []) (joined b p f)) (ends_call b c said.Plain)
    (record { stage = λ e. e; rows = refl; turn = (may_commit f b p is live opened, tt); silent = refl })
    (ends_fine (is_before f.stage) (ended f.rows b true) b c said.Plain (joined b p f) (joined_but law f b p live n is opened h) (λ z. absurd (n z)))

-- ---- the end of a subtransaction's own call

-- where a subtransaction is to commit, its parent has not ended
abbrev pub MayGo : Family → ℕ → Aim → Type 0
MayGo f b aim = (asked : Bool) → aim ≡ Commits asked → b ≢ 0 → has_parent_ended f b ≡ false

pub positive : (b : ℕ) → b ≢ 0 → 0 < b
positive b n = grind arith

own_ends_fine : Laws → (aim : Aim) (b : ℕ) (c : Call) (f : Family) → c.aim ≡ aim → b ≢ 0 → MayGo f b aim → But b f → Takes b c f → Fine f (own_ends aim b c f)
own_ends_fine law (Commits asked) b c f e n go h t =
    let live : is_live_branch f.rows b ≡ true = (t.sub (positive b n)).commits asked e in
    commits_up_fine law b (adopter f.rows b) c f (sym (ap (λ (x : Bool). if x then parent f.rows b else None) live)) n live (go asked refl n) h t
own_ends_fine law (RollsBack says) b c f e n go h t = ends_fine (is_before f.stage) f.rows b c says f h (λ z. absurd (n z))

own_dues : (aim : Aim) (b : ℕ) (f : Family) → IsSoundLists f.rows f.ballots → ((says : Said) → aim ≡ RollsBack says → IsCutOff f.rows b) → AllByRecursion (IsDue f.rows f.ballots) (own_duties aim b f)
unfolding commit_duties
own_dues (RollsBack says) b f h cut = undo_dues f.rows f.ballots b (cut says refl) h
own_dues (Commits asked) b f h cut = commits (parent f.rows b)
  where
    commits : (o : Option ℕ) → AllByRecursion (IsDue f.rows f.ballots) (commit_duties f.ballots b o)
    commits (Some above) = told_dues f.rows f.ballots (TellsCommit above) (λ e. absurd (cc e)) (aware_of f.ballots b)
    commits None = tt

tells_own_fine : Laws → (b : ℕ) (c : Call) (f : Family) → b ≢ 0 → MayGo f b c.aim → But b f → Takes b c f → Fine f (tells_own b c f)
unfolding tells_own
tells_own_fine law b c f n go h t =
    let own : Call = record c { leg = Own } in
    let sub = t.sub (positive b n) in
    let ready : (left : List Duty) → AllByRecursion (IsDue f.rows f.ballots) left → IsSoundCall f.stage f.rows f.ballots b c.aim Own left =
    λ left dues. record { top = λ z. absurd (n z); sub = λ p. record { of_sub = tt; commits = sub.commits; undoes = sub.undoes }; dues = dues } in
    tells_first_fine (own_duties c.aim b f) b own (own_ends c.aim b own) f h (ready (own_duties c.aim b f) (own_dues c.aim b f h.lists sub.undoes))
    (λ e. own_ends_fine law c.aim b own f refl n go h (ready c.left t.dues))

-- ---- nothing is live below

passes_top_fine : Laws → (stage : Stage) (aim : Aim) (c : Call) (f : Family) → f.stage ≡ stage → c.aim ≡ aim → IsInStage stage aim Below → IsAlone f c → Fine f (passes_top stage c f)
passes_top_fine law Finishing (Commits asked) c f e i k a = before_fine law 0 c f e asked i a
passes_top_fine law Finishing (RollsBack says) c f e i k a = absurd (cc k)
passes_top_fine law Completing aim c f e i k a = decides_fine law c f e a
passes_top_fine law Going (Commits asked) c f e i k a = absurd (cc k)
passes_top_fine law Going (RollsBack says) c f e i k a = absurd (cc k)
passes_top_fine law Over (Commits asked) c f e i k a = absurd (cc k)
passes_top_fine law Over (RollsBack says) c f e i k a = absurd (cc k)

zero_is : (b : ℕ) → (b == 0) ≡ true → b ≡ 0
zero_is b e = grind arith

zero_not : (b : ℕ) → (b == 0) ≡ false → b ≢ 0
zero_not b e = grind arith

passes_fine : Laws → (b : ℕ) (c : Call) (f : Family) → c.leg ≡ Below → MayGo f b c.aim → (b ≡ 0 → NoneLive f.rows) → But b f → Takes b c f → Fine f (passes b c f)
unfolding passes
passes_fine law b c f l go none h t =
    either (is_before f.stage) f.rows (b == 0) _ _
    (λ e. let z : b ≡ 0 = zero_is b e in
    passes_top_fine law f.stage c.aim c f refl refl (subst (λ (x : Leg). IsInStage f.stage c.aim x) l (t.top z).in_stage)
    (record { but = rw z at h; none = none z; dues = t.dues }))
    (λ e. tells_own_fine law b c f (zero_not b e) go h t)

-- ---- one is rolled back below

left_dues : (rs : List Row) (some : Ballots) (o : Option Call) → ((c : Call) → o ≡ Some c → AllByRecursion (IsDue rs some) c.left) → AllByRecursion (IsDue rs some) (left_by o)
left_dues rs some None h = tt
left_dues rs some (Some c) h = below c.leg
  where
    below : (leg : Leg) → AllByRecursion (IsDue rs some) (left_below leg c)
    below Below = h c refl
    below Own = tt
    below (Before called) = tt
    below Deciding = tt
    below (After called) = tt

-- what it leaves
record IsEnded (b d : ℕ) (f : Family) : Type 0 where
  but : But b (ends_below d f).family
  quiet : Quiet f (ends_below d f)
  dues : AllByRecursion (IsDue (ends_below d f).family.rows (ends_below d f).family.ballots) (duties_below d f)
  rows : (ends_below d f).family.rows ≡ ended f.rows d false
  ballots : (ends_below d f).family.ballots ≡ f.ballots
  stage : (ends_below d f).family.stage ≡ f.stage

ends_below_is : Laws → (b d : ℕ) (f : Family) → IsLaterLive f.rows b d → But b f → IsEnded b d f
unfolding ends_below
ends_below_is law b d f k h =
    let more : List Row = ended f.rows d false in
    let apart : d ≢ b = λ e. let l = k.later in absurd (omega (arith, l, e)) in
    let above : d ≢ 0 = λ e. let l = k.later in absurd (omega (arith, l, e)) in
    let top : is_live_branch more 0 ≡ true = live_other f.rows d RolledBack 0 (λ e. above (sym e)) ∙ h.lists.top in
    let lists : IsSoundLists more f.ballots = lists_with law f.rows f.ballots d RolledBack k.live (λ e. absurd (cc e)) top h.lists in
    let fewer : NoneLive f.rows → NoneLive more = none_live_kept f.rows more (live_before f.rows d RolledBack k.live) in
    record {
      but = record {
        lists = lists;
        completion = completion_rows f.stage f.rows more f.ballots f.completion fewer h.completion;
        as_many = set_length f.calls d None ∙ h.as_many ∙ sym (((law.keep f.rows d).with_a_state RolledBack).count);
        others = λ x c o e. still x c o e (same_or_not x d);
        finishing = λ n fin. ap (λ (x : Option Call). is_some x) (called_other f.calls d 0 None (λ e. above (sym e))) ∙ h.finishing n fin;
      };
      quiet = record { stage = λ e. e; rows = refl; turn = (k.live, tt); silent = refl };
      dues = all_joined (IsDue more f.ballots) (left_by (call_at f d)) (undo_duties f.ballots d)
          (left_dues more f.ballots (call_at f d) (λ c e. due_kept f.rows more f.ballots f.ballots
          (cut_stays law f.rows d RolledBack k.live) (λ r x. x) c.left (h.others d c apart e).dues))
          (undo_dues more f.ballots d (cut_here f.rows d k.live) lists);
      rows = refl;
      ballots = refl;
      stage = refl;
    }
  where
    kept : (x : ℕ) (c : Call) → x ≢ b → x ≢ d → called f.calls x ≡ Some c → IsSoundCall f.stage (ended f.rows d false) f.ballots x c.aim c.leg c.left
    kept x c o n e = call_kept f.stage f.rows (ended f.rows d false) f.ballots f.ballots x c.aim c.leg c.left
        (λ l. live_other f.rows d RolledBack x n ∙ l) (cut_stays law f.rows d RolledBack k.live)
        (none_live_kept f.rows (ended f.rows d false) (live_before f.rows d RolledBack k.live)) (λ r y. y) (h.others x c o e)

    still : (x : ℕ) (c : Call) → x ≢ b → called (slice_set f.calls d None) x ≡ Some c → (x ≡ d) ⊎ (x ≢ d)
        → IsSoundCall f.stage (ended f.rows d false) f.ballots x c.aim c.leg c.left
    still x c o e (inl i) = absurd (cc (called_same f.calls d None c (rw i at e)))
    still x c o e (inr n) = kept x c o n (sym (called_other f.calls d x None n) ∙ e)

-- the parent is as it was
parent_still : Laws → (f : Family) (b d : ℕ) → IsTree f.rows → IsLaterLive f.rows b d → b < length f.rows → has_parent_ended (ends_below d f).family b ≡ has_parent_ended f b
unfolding ends_below
parent_still law f b d t k within = ap (λ (o : Option ℕ). option_map_or (has_ended g) o false) (((law.keep f.rows d).with_a_state RolledBack).parents b) ∙ go (parent f.rows b) refl
  where
    g : Family
    g = (ends_below d f).family

    same : (x : Bool) (p : ℕ) → p ≢ d → (if x then not (is_before f.stage) else not (is_live_branch (ended f.rows d false) p)) ≡ (if x then not (is_before f.stage) else not (is_live_branch f.rows p))
    same true p n = refl
    same false p n = ap (λ (y : Bool). not y) (live_other f.rows d RolledBack p n)

    go : (o : Option ℕ) → parent f.rows b ≡ o → option_map_or (has_ended g) o false ≡ option_map_or (has_ended f) o false
    go None e = refl
    go (Some p) e = same (p == 0) p (λ i. let under = law.earlier f.rows t b p within e in let l = k.later in absurd (omega (arith, under, l, i)))

still_may_go : Laws → (f : Family) (b d : ℕ) (c : Call) → IsLaterLive f.rows b d → But b f → Takes b c f → MayGo f b c.aim → MayGo (ends_below d f).family b c.aim
still_may_go law f b d c k h t go asked e n =
    parent_still law f b d h.lists.tree k (live_within f.rows b ((t.sub (positive b n)).commits asked e)) ∙ go asked e n

still_takes : Laws → (f : Family) (b d : ℕ) (c : Call) → IsLaterLive f.rows b d → Takes b c f → Takes b c (ends_below d f).family
unfolding ends_below
still_takes law f b d c k t =
    let apart : b ≢ d = λ e. let l = k.later in absurd (omega (arith, l, e)) in
    call_kept f.stage f.rows (ended f.rows d false) f.ballots f.ballots b c.aim c.leg c.left
    (λ l. live_other f.rows d RolledBack b apart ∙ l) (cut_stays law f.rows d RolledBack k.live)
    (none_live_kept f.rows (ended f.rows d false) (live_before f.rows d RolledBack k.live)) (λ r y. y) t

-- ---- subtransactions are rolled back one after another

abbrev Sweeps : ℕ → ℕ → Call → Type 0
Sweeps n b c = (f : Family) → MayGo f b c.aim → count_live f.rows ≤ n → But b f → Takes b c f → Fine f (sweeps n b c f)

sweeps_next_fine : Laws → (n b : ℕ) (c : Call) → c.leg ≡ Below → Sweeps n b c → (f : Family) (o : Option ℕ) → live_under f.rows b ≡ o → MayGo f b c.aim → count_live f.rows ≤ suc n → But b f → Takes b c f
    → Fine f (sweeps_next o b c (sweeps n b c) f)
sweeps_next_fine law n b c l on f (Some d) e go few h t =
    let k : IsLaterLive f.rows b d = next_live law f.rows h.lists.tree b d e in
    let i : IsEnded b d f = ends_below_is law b d f k h in
    let g : Family = (ends_below d f).family in
    let kept : Takes b c g = still_takes law f b d c k t in
    let count : count_live g.rows ≤ n = rw i.rows (let one = one_less f.rows d k.live in omega (arith, one, few)) in
    chained (is_before f.stage) f.rows (ends_below d f) (tells_first (duties_below d f) b c (sweeps n b c)) i.quiet
    (tells_first_fine (duties_below d f) b c (sweeps n b c) g i.but (record { top = kept.top; sub = kept.sub; dues = i.dues })
    (λ none. on g (still_may_go law f b d c k h t go) count i.but kept))
sweeps_next_fine law n b c l on f None e go few h t =
    passes_fine law b c f l go (λ z. none_live law f.rows h.lists.tree (rw z at e)) h t

sweeps_fine : Laws → (n b : ℕ) (c : Call) → c.leg ≡ Below → Sweeps n b c
unfolding sweeps
sweeps_fine law zero b c l f go few h t =
    passes_fine law b c f l go (λ z q p live. no_live f.rows (omega (arith, few)) q live) h t
sweeps_fine law (suc n) b c l f go few h t = sweeps_next_fine law n b c l (sweeps_fine law n b c l) f (live_under f.rows b) refl go few h t

-- ---- a call goes on

pub top_alone : (b : ℕ) (c : Call) (f : Family) (leg : Leg) → c.leg ≡ leg → IsPastBelow leg → But b f → Takes b c f → b ≡ 0 → IsAlone f c
top_alone b c f leg e past h t z = record {
  but = rw z at h;
  none = (t.top z).alone (subst IsPastBelow (sym e) past);
  dues = t.dues;
}

-- only the top-level transaction's call has these legs
pub is_top : (b : ℕ) (c : Call) (f : Family) (leg : Leg) → c.leg ≡ leg → IsPastBelow leg → Takes b c f → b ≡ 0
is_top b c f leg e past t =
    elim (same_or_not b 0) [
      | inl z ↦ z
      | inr n ↦ absurd (not_sub leg past (subst IsOfSub e (t.sub (positive b n)).of_sub))
    ]
  where
    not_sub : (leg : Leg) → IsPastBelow leg → IsOfSub leg → ⊥
    not_sub Below p s = p
    not_sub Own p s = p
    not_sub (Before called) p s = s
    not_sub Deciding p s = s
    not_sub (After called) p s = s

sub_own : (b : ℕ) (c : Call) (f : Family) → c.leg ≡ Own → Takes b c f → b ≢ 0
sub_own b c f e t z = subst (λ (x : Leg). IsInStage f.stage c.aim x) e (t.top z).in_stage

before_by_aim : Laws → (called : ℕ) (c : Call) (f : Family) (aim : Aim) → c.aim ≡ aim → IsInStage f.stage aim (Before called) → IsAlone f c → Fine f (before called c f)
before_by_aim law called c f (Commits asked) e i a = before_fine law called c f i asked e a
before_by_aim law called c f (RollsBack says) e i a = absurd i

tells_after_fine : (o : Option Outcome) (called : ℕ) (c : Call) (f : Family) → c.leg ≡ After called → f.stage ≡ Completing → IsAlone f c → Fine f (tells_after o called c f)
tells_after_fine (Some fixed) called c f l e a = afterwards_fine (is_before f.stage) f.rows called c fixed f e a
tells_after_fine None called c f l e a = waits_fine 0 c f a.but (top_call f.stage f.rows f.ballots c.aim c.leg c.left (rw l e) a.none a.dues)

by_leg_fine : Laws → (leg : Leg) (b : ℕ) (c : Call) (f : Family) → c.leg ≡ leg → MayGo f b c.aim → But b f → Takes b c f → Fine f (by_leg leg b c f)
by_leg_fine law Below b c f l go h t = sweeps_fine law (length f.rows) b c l f go (few_live f.rows) h t
by_leg_fine law Own b c f l go h t = own_ends_fine law c.aim b c f refl (sub_own b c f l t) go h t
by_leg_fine law (Before called) b c f l go h t =
    let z : b ≡ 0 = is_top b c f (Before called) l tt t in
    before_by_aim law called c f c.aim refl (subst (λ (x : Leg). IsInStage f.stage c.aim x) l (t.top z).in_stage) (top_alone b c f (Before called) l tt h t z)
by_leg_fine law Deciding b c f l go h t =
    let z : b ≡ 0 = is_top b c f Deciding l tt t in
    decides_fine law c f (subst (λ (x : Leg). IsInStage f.stage c.aim x) l (t.top z).in_stage) (top_alone b c f Deciding l tt h t z)
by_leg_fine law (After called) b c f l go h t =
    let z : b ≡ 0 = is_top b c f (After called) l tt t in
    tells_after_fine (stages.outcome f.completion) called c f l (subst (λ (x : Leg). IsInStage f.stage c.aim x) l (t.top z).in_stage) (top_alone b c f (After called) l tt h t z)

-- one that isn't held, and has nothing left to tell
not_held : (b : ℕ) (c : Call) (f : Family) → is_held b c f ≡ false → c.left ≡ [] → MayGo f b c.aim
unfolding is_held
not_held b c f held none asked e n =
    parts (is_commit c.aim) (has_parent_ended f b) (is_below c.leg) (has_some c.left) (rw e refl) (rw none refl) held
  where
    parts : (a p l s : Bool) → a ≡ true → s ≡ false → (a && p && not (l && s)) ≡ false → p ≡ false
    parts true false l s x y z = refl
    parts true true true false x y z = absurd (cc z)
    parts true true true true x y z = absurd (cc y)
    parts true true false s x y z = absurd (cc z)
    parts false p l s x y z = absurd (cc x)

pub runs_fine : Laws → (b : ℕ) (c : Call) (f : Family) → But b f → Takes b c f → Fine f (runs b c f)
unfolding runs
runs_fine law b c f h t =
    either (is_before f.stage) f.rows (is_held b c f) _ _ (λ held. waits_fine b c f h t)
    (λ held. tells_first_fine c.left b c (by_leg c.leg b c) f h t (λ none. by_leg_fine law c.leg b c f refl (not_held b c f held none) h t))

runs_call_fine : Laws → (o : Option Call) (b : ℕ) (f : Family) → call_at f b ≡ o → IsSoundFamily f → Fine f (runs_call o b f)
runs_call_fine law (Some c) b f e h = runs_fine law b c f (taken_up b f h) (h.under_way b c e)
runs_call_fine law None b f e h = only_fine f h

pub goes_on_fine : Laws → (b : ℕ) (f : Family) → IsSoundFamily f → Fine f (goes_on b f)
unfolding goes_on
goes_on_fine law b f h = runs_call_fine law (call_at f b) b f refl h
