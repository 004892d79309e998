-- A family that is there: the lines of its branches and of its participants, and that it goes on until it is decided.
use Rattle.std.proofs.Common.{◌≡◌, inl, ℕ, zero, suc, ◌-◌, ◌<◌, ◌==◌, ◌&&◌, Bool, true, false, cond, IsTrue, List, [], ◌∷◌, length, slice_get, Contains, get_or, Option, Some, None, refl, sym, ap, subst, ◌∙◌, arith, true≢false}
use Rattle.std.specs.List.{AllByRecursion}
use Rattle.std.specs.Option.{option_and_then, option_map, option_map_or}
use Rattle.std.proofs.lemmas.Bool.Decides.{nat_tests}
use Rattle.ior_refs.specs.declared.key.ObjectKey.{ObjectKey}
use Rattle.ots_model.specs.Safe as safe
use Rattle.ots_model.specs.Safe.{Stands, IsRegistered, IsJoined, TakesPart}
use Rattle.ots_model.specs.SafeByLine.{IsCommittedBy}
use Rattle.ots_model.specs.declared.completion.Ground.TheVariants.{Record}
use Rattle.ots_model.specs.declared.line.Line.TheVariants as lines
use Rattle.ots_model.specs.Numbered.{Outcome}
use Rattle.ots_model.specs.declared.completion.Outcome.TheVariants as outcomes
use Rattle.ots_model.specs.declared.tree.Reason.{Reason}
use Rattle.resource_votes.specs.Ballots.{participants}
use Rattle.resource_votes.specs.declared.registration.Registration.{Registration}
use Rattle.txn_tree.specs.Rows.{IsParent, parent, state, is_live, is_live_branch}
use Rattle.txn_tree.specs.declared.row.Row.{Row}
use Rattle.txn_tree.specs.declared.row.State.{State as BranchState}
use Rattle.txn_tree.specs.declared.row.State.TheVariants as rows
use Rattle.two_phase.specs.Course.{Course, outcome}
use Rattle.two_phase.specs.Stages as stages
use Rattle.two_phase.specs.Stages.{Standing, Waiting, Going as UnderWay}
use Rattle.coordinator.specs.Family.{Family}
use Rattle.coordinator.specs.Node.{Node, family_in, family_of, is_of, only_of}
use Rattle.family_laws.specs.Sound.{IsAsking}
use Rattle.family_laws.specs.Trees as trees
use Rattle.family_laws.specs.Trees.{IsUpTo}
use Rattle.nodes_world.specs.Agreement as agreed
use Rattle.nodes_world.specs.Agreement.{IsTransaction, IsClosed, IsCutOff, IsOutlived, records_at}
use Rattle.nodes_world.specs.AgreementInside.{Known, IsBranch, IsBack}
use Rattle.nodes_world.specs.Objects.{place_of, service_at}
use Rattle.nodes_world.specs.Journals.{records_on}
use Rattle.nodes_world.specs.Told.{Told, known}
use Rattle.nodes_world.specs.World.{World, Seat, OfNode, NamedKey, family_at, node_at, node_in, referred, thing}
use Rattle.nodes_world.proofs.Going.{node_up}
use Rattle.nodes_world.proofs.KnownLines.{lines_of, is_top, joined_up, same_key}

-- ---- small facts

pub some_of : {A B : Type 0} (f : A → Option B) (o : Option A) (y : B) → option_and_then f o ≡ Some y → (x : A) × (o ≡ Some x) × (f x ≡ Some y)
some_of f None y is = absurd cc
some_of f (Some x) y is = (x, refl, is)

pub all_at : {A : Type 0} (P : A → Type 0) (xs : List A) (x : A) → AllByRecursion P xs → Contains xs x → P x
all_at {A = A} P xs x h c = go xs c.0 h c.1 c.2
  where
    go : (ys : List A) (k : ℕ) → AllByRecursion P ys → k < length ys → get_or ys k x ≡ x → P x
    go [] k h l e = absurd (omega (arith, l))
    go (y ∷ ys) zero h l e = subst P e h.0
    go (y ∷ ys) (suc k) h l e = go ys k h.1 (omega (arith, l)) e

pub state_within : (rs : List Row) (b : ℕ) (s : BranchState) → state rs b ≡ Some s → b < length rs
state_within [] b s e = absurd cc
state_within (r ∷ rs) zero s e = omega arith
state_within (r ∷ rs) (suc b) s e = let l = state_within rs b s e in omega (arith, l)

pub parent_within : (rs : List Row) (b p : ℕ) → parent rs b ≡ Some p → b < length rs
parent_within [] b p e = absurd cc
parent_within (r ∷ rs) zero p e = omega arith
parent_within (r ∷ rs) (suc b) p e = let l = parent_within rs b p e in omega (arith, l)

-- the top-level transaction's row is live, so one that has ended is another
pub ended_below : (rs : List Row) (b : ℕ) (s : BranchState) → IsTrue (is_live_branch rs 0) → is_live s ≡ false → state rs b ≡ Some s → 0 < b
ended_below rs zero s top ended e = absurd (true≢false (sym top ∙ (ap (λ (o : Option BranchState). option_map_or is_live o false) e ∙ ended)))
ended_below rs (suc b) s top ended e = omega arith

-- a parent is made before its branch
pub parent_before : (b : ℕ) (o : Option ℕ) (p : ℕ) → IsParent b o → o ≡ Some p → p < b
parent_before b None p is e = absurd cc
parent_before b (Some q) p is e = subst (λ (x : ℕ). x < b) (inner e) is
  where
    inner : {x y : ℕ} → Some x ≡ Some y → x ≡ y
    inner e = cc

-- ---- the outcome

not_overtaken : (o : Option Reason) (x : Option Outcome)
    → (elim o as (λ _. Option Outcome) [ Some reason ↦ Some (outcomes.Rollback reason) | None ↦ x ]) ≡ Some (outcomes.Commit Record) → o ≡ None
not_overtaken None x e = refl
not_overtaken (Some reason) x e = absurd cc

course_asking : (c : Course) → outcome c ≡ Some (outcomes.Commit Record) → c.overtaken ≡ None
unfolding outcome
course_asking c e = not_overtaken c.overtaken _ e

-- what commits by a record was not overtaken by a rollback
pub commits_asking : (s : Standing) → stages.outcome s ≡ Some (outcomes.Commit Record) → IsAsking s
commits_asking (Waiting room) e = absurd cc
commits_asking (UnderWay c) e = course_asking c e

-- ---- where a family is

pub same_parts : (a b c d p q r s : ℕ) → IsTrue (a == p && b == q && c == r && d == s) → (a ≡ p) × (b ≡ q) × (c ≡ r) × (d ≡ s)
same_parts a b c d p q r s is = grind (arith, nat_tests)

own_parts : (a b c d : ℕ) → IsTrue (a == a && b == b && c == c && d == d)
own_parts a b c d = grind (arith, nat_tests)

pub is_own : (f : Family) → IsTrue (is_of f.key f)
is_own f = own_parts f.key.service f.key.life f.key.slot f.key.generation

of_only : (b : Bool) (g f : Family) → cond b (Some g) None ≡ Some f → IsTrue b × (g ≡ f)
of_only true g f e = (refl, inner e)
  where
    inner : {x y : Family} → Some x ≡ Some y → x ≡ y
    inner e = cc
of_only false g f e = absurd cc

-- its node is up, and has it in its slot
pub record IsSeated (w : World) (key : ObjectKey) (f : Family) : Type 0 where
  pub seat : Seat
  pub node : Node
  pub there : slice_get w.seats (place_of key) ≡ Some seat
  pub up : seat.server ≡ OfNode (Some node)
  pub slotted : family_in node.families key.slot ≡ Some f
  pub own : IsTrue (is_of key f)

pub seated : (w : World) (key : ObjectKey) (f : Family) → family_at w key ≡ Some f → IsSeated w key f
unfolding node_at family_of
seated w key f is =
    let at_node = some_of (family_of key) (node_at w (place_of key)) f is in
    let at_seat = some_of (λ (s : Seat). node_in s.server) (slice_get w.seats (place_of key)) at_node.0 at_node.1 in
    let at_slot = some_of (only_of key) (family_in at_node.0.families key.slot) f at_node.2 in
    let only = of_only (is_of key at_slot.0) at_slot.0 f at_slot.2 in
    record {
      seat = at_seat.0;
      node = at_node.0;
      there = at_seat.1;
      up = node_up at_seat.0.server at_node.0 at_seat.2;
      slotted = at_slot.1 ∙ ap (λ (g : Family). Some g) only.1;
      own = subst (λ (g : Family). IsTrue (is_of key g)) only.1 only.0;
    }

-- the key of its top-level transaction finds it too
pub own_seated : (w : World) (key : ObjectKey) (f : Family) → IsSeated w key f → IsSeated w f.key f
own_seated w key f s =
    let same = same_parts key.service key.life key.slot key.generation f.key.service f.key.life f.key.slot f.key.generation s.own in
    record {
      seat = s.seat;
      node = s.node;
      there = subst (λ (service : ℕ). slice_get w.seats (service - 1) ≡ Some s.seat) same.0 s.there;
      up = s.up;
      slotted = subst (λ (slot : ℕ). family_in s.node.families slot ≡ Some f) same.2 s.slotted;
      own = is_own f;
    }

pub family_found : (w : World) (key : ObjectKey) (f : Family) → IsSeated w key f → family_at w key ≡ Some f
unfolding node_at family_of
family_found w key f s =
    ap (λ (o : Option Seat). option_and_then (family_of key) (option_and_then (λ (x : Seat). node_in x.server) o)) s.there
    ∙ ap (λ (x : _). option_and_then (family_of key) (node_in x)) s.up
    ∙ ap (λ (o : Option Family). option_and_then (only_of key) o) s.slotted
    ∙ ap (λ (b : Bool). cond b (Some f) None) s.own

pub found_by_own : (w : World) (key : ObjectKey) (f : Family) → family_at w key ≡ Some f → family_at w f.key ≡ Some f
found_by_own w key f is = family_found w f.key f (own_seated w key f (seated w key f is))

-- one place and slot have one family
same_seated : (w : World) (key other : ObjectKey) (f g : Family) → IsSeated w key f → IsSeated w other g → place_of key ≡ place_of other → key.slot ≡ other.slot → f ≡ g
same_seated w key other f g one two at slot =
    let same_seat : one.seat ≡ two.seat = inner (sym one.there ∙ ap (slice_get w.seats) at ∙ two.there) in
    let same_node : one.node ≡ two.node = node_of (sym one.up ∙ ap (λ (s : Seat). s.server) same_seat ∙ two.up) in
    inner (sym one.slotted ∙ ap (λ (n : Node). family_in n.families key.slot) same_node ∙ ap (family_in two.node.families) slot ∙ two.slotted)
  where
    inner : {A : Type 0} {x y : A} → Some x ≡ Some y → x ≡ y
    inner e = cc

    node_of : {x y : Node} → OfNode (Some x) ≡ OfNode (Some y) → x ≡ y
    node_of e = cc

pub same_family : (w : World) (key other : ObjectKey) (f g : Family) → family_at w key ≡ Some f → family_at w other ≡ Some g → place_of f.key ≡ place_of g.key
    → f.key.slot ≡ g.key.slot → f ≡ g
same_family w key other f g one two at slot =
    same_seated w f.key g.key f g (own_seated w key f (seated w key f one)) (own_seated w other g (seated w other g two)) at slot

-- so have two that have a branch's key
pub same_of_branch : (w : World) (key other branch : ObjectKey) (f g : Family) → family_at w key ≡ Some f → family_at w other ≡ Some g → IsTrue (is_of branch f)
    → IsTrue (is_of branch g) → f ≡ g
same_of_branch w key other branch f g one two of_f of_g =
    let a = same_parts branch.service branch.life branch.slot branch.generation f.key.service f.key.life f.key.slot f.key.generation of_f in
    let b = same_parts branch.service branch.life branch.slot branch.generation g.key.service g.key.life g.key.slot g.key.generation of_g in
    same_family w key other f g one two (ap (λ (n : ℕ). n - 1) (sym a.0 ∙ b.0)) (sym a.2 ∙ b.2)

up_to_top : (rs : List Row) (c d : ℕ) → IsTrue (is_live_branch rs 0) → d ≡ 0 → IsUpTo rs c d → c ≡ d
up_to_top rs c _ top is trees.same = refl
up_to_top rs c _ top is (trees.further d p done up above) = let below = ended_below rs d rows.Committed top refl done in absurd (omega (arith, below, is))

module _ (w : World) (told : List Told) (k : Known w told) (key : ObjectKey) (f : Family) (there : family_at w key ≡ Some f) where
  -- ---- while it is there

  -- its node has not come up in a later life
  pub not_outlived : IsOutlived w told f.key → ⊥
  not_outlived o =
      let s = own_seated w key f (seated w key f there) in
      let place = place_of f.key in
      let follows = k.disks.follows place s.seat s.node s.there s.up in
      let whole = (k.disks.whole place s.seat s.node s.there s.up).families f.key.slot f s.slotted in
      let held : records_at w place ≡ Some follows.records =
      ap (λ (o : Option Seat). option_and_then (λ (x : Seat). records_on (service_at place) x.disk) o) s.there ∙ follows.held in
      let server : s.seat.name ≡ o.server = name_of (sym (ap (λ (o : Option Seat). option_map (λ (x : Seat). x.name) o) s.there) ∙ o.named) in
      let no_later = k.disks.lives place s.seat (Some s.node) o.life follows.records s.there s.up (subst (λ (name : List ℕ). Stands (lines.Up name o.life) (known told)) (sym server) o.up) held in
      let found = ap (λ x. x.life) follows.found in
      omega (arith, no_later, found, whole.of_life, o.later)
    where
      name_of : {x y : List ℕ} → Some x ≡ Some y → x ≡ y
      name_of e = cc

  -- where it is closed, it was rolled back
  pub closed_back : (name : List ℕ) → IsTransaction w name f.key → IsClosed w told f.key name → IsBack (stages.outcome f.completion)
  closed_back name named (agreed.IsClosed.rolled_back back) =
      k.rolled_back name f.key f named (k.families key f there).top (found_by_own w key f there) back
  closed_back name named (agreed.IsClosed.outlived later undecided) = absurd (not_outlived later)

  -- ---- its branches

  -- one that was committed up to the top is joined to the family
  pub joined_branch : (b : ℕ) → IsUpTo f.rows 0 b → (t : List ℕ) × IsBranch w f t b × IsJoined (lines_of told) (k.families key f there).name t
  joined_branch _ trees.same =
      let known_family = k.families key f there in
      let top = is_top w told k known_family.name f.key known_family.of_name known_family.top in
      (known_family.name, (f.key, known_family.of_name, is_own f, known_family.top), safe.IsJoined.own (inl top))
  joined_branch _ (trees.further c p done up above) =
      let known_family = k.families key f there in
      let below = known_family.branches c (state_within f.rows c rows.Committed done) in
      let higher = joined_branch p above in
      let first = ended_below f.rows c rows.Committed known_family.sound.lists.top refl done in (
        below.0,
        below.1,
        safe.IsJoined.committed below.0 higher.0 ((known_family.ends below.0 c true below.1 first).1 done)
            ((known_family.parents below.0 higher.0 c p below.1 higher.1).1 up) higher.2,
      )

  -- one that is cut off in its tree is so by lines
  pub cut_branch : (b : ℕ) (t : List ℕ) → trees.IsCutOff f.rows b → IsBranch w f t b → IsCutOff (lines_of told) t
  cut_branch _ t (trees.IsCutOff.itself b undone) branch =
      let known_family = k.families key f there in
      let first = ended_below f.rows b rows.RolledBack known_family.sound.lists.top refl undone in
      agreed.IsCutOff.itself t ((known_family.ends t b false branch first).1 undone)
  cut_branch _ t (trees.IsCutOff.above b p up off) branch =
      let known_family = k.families key f there in
      let within = parent_within f.rows b p up in
      let before = parent_before b (parent f.rows b) p (known_family.sound.lists.tree.parents b within) up in
      let higher = known_family.branches p (omega (arith, before, within)) in
      agreed.IsCutOff.above t higher.0 ((known_family.parents t higher.0 b p branch higher.1).1 up) (cut_branch p higher.0 off higher.1)

  -- ---- its participants

  -- one of them is registered with a branch that is joined to the family
  pub participant_of : (r : Registration) (x : NamedKey) → Contains (participants 0 f.ballots) r → referred w r.to ≡ Some x
      → (t : List ℕ) × IsBranch w f t r.branch × IsRegistered x.name t (lines_of told) × IsJoined (lines_of told) (k.families key f there).name t
  participant_of r x among refers =
      let known_family = k.families key f there in
      let up = all_at (λ (s : Registration). IsUpTo f.rows 0 s.branch) (participants 0 f.ballots) r (known_family.sound.lists.listed 0) among in
      let at = joined_branch r.branch up in
      (at.0, at.1, (known_family.registrations x.name at.0 r.branch at.1).1 (0, r, x, among, refl, refers, refl), at.2)

  pub takes_part : (r : Registration) (x : NamedKey) → Contains (participants 0 f.ballots) r → referred w r.to ≡ Some x
      → TakesPart x.name (k.families key f there).name (lines_of told)
  takes_part r x among refers = let at = participant_of r x among refers in (at.0, at.2, at.3)

  -- so one may be asked
  pub can_ask : (r : Registration) (x : NamedKey) → Contains (participants 0 f.ballots) r → referred w r.to ≡ Some x
      → IsCommittedBy x.name (lines_of told)
  can_ask r x among refers = let at = participant_of r x among refers in (at.0, at.2, joined_up (lines_of told) (k.families key f there).name at.0 at.3)

  -- and what takes part in it is one of its participants
  pub branch_joined : (t : List ℕ) → IsJoined (lines_of told) (k.families key f there).name t → (b : ℕ) × IsBranch w f t b × IsUpTo f.rows 0 b
  branch_joined _ (safe.IsJoined.own family) =
      let known_family = k.families key f there in
      (0, (f.key, known_family.of_name, is_own f, known_family.top), trees.same)
  branch_joined _ (safe.IsJoined.committed t higher done sub above) =
      let known_family = k.families key f there in
      let at = branch_joined higher above in
      let named = k.names.subs t higher sub in
      let same : at.1.0 ≡ record named.0 { index = named.1.index } = same_key (thing w higher) at.1.0 named.1 at.1.1 named.3 ∙ sym named.5 in
      let branch : IsBranch w f t named.0.index = (named.0, named.2, subst (λ (x : ObjectKey). IsTrue (is_of x f)) same at.1.2, refl) in (
        named.0.index,
        branch,
        trees.further named.0.index at.0 ((known_family.ends t named.0.index true branch named.4).0 done)
            ((known_family.parents t higher named.0.index at.0 branch at.1).0 sub) at.2,
      )

  pub participant_there : (g : List ℕ) → TakesPart g (k.families key f there).name (lines_of told)
      → (r : Registration) × (x : NamedKey) × Contains (participants 0 f.ballots) r × (referred w r.to ≡ Some x) × (x.name ≡ g)
  participant_there g (t, registered, joined) =
      let known_family = k.families key f there in
      let at = branch_joined t joined in
      let listed = (known_family.registrations g t at.0 at.1).0 registered in
      let up = subst (IsUpTo f.rows 0) (sym listed.4) at.2 in
      let highest = all_at (λ (r : Registration). (c : ℕ) → IsUpTo f.rows c r.branch → IsUpTo f.rows listed.0 c) (participants listed.0 f.ballots) listed.1
      (known_family.sound.lists.highest listed.0) listed.3 in
      let first = up_to_top f.rows listed.0 0 known_family.sound.lists.top refl (highest 0 up) in
      (listed.1, listed.2, subst (λ (c : ℕ). Contains (participants c f.ballots) listed.1) first listed.3, listed.5, listed.6)
