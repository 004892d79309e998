-- How often each registration is in each list, after all accepted calls.
use Rattle.std.proofs.Common.{◌≡◌, ◌≢◌, ◌⊎◌, inl, inr, ℕ, ◌+◌, ◌<◌, ◌≤◌, ◌||◌, ◌&&◌, Bool, true, false, not, zero, suc, List, [], ◌∷◌, ◌++◌, length, Option, Some, None, refl, ap, sym, ◌∙◌, arith}
use Rattle.std.specs.Prelude.{slice_set, nat_le, replicate, if◌then◌else◌}
use Rattle.std.proofs.lemmas.Grind.{common_steps}
use Rattle.std.proofs.lemmas.Bool.Decides.{nat_tests}
use Rattle.std.proofs.lemmas.List.{get_or-set_same, get_or-set_other, length-replicate}
use Rattle.std.proofs.lemmas.List.Sums.{sum_by-append}
use Rattle.std.specs.List.{slice_get}
use Rattle.std.specs.Option.{option_map, option_map_or, option_and_then, option_or}
use Rattle.txn_tree.specs.declared.row.Row.{Row}
use Rattle.txn_tree.specs.declared.row.State.{State}
use Rattle.txn_tree.specs.declared.row.State.TheVariants.{Active, Marked, Committed, RolledBack}
use Rattle.txn_tree.specs.declared.row.TreeFault.{TreeFault}
use Rattle.txn_tree.specs.declared.row.TreeFault.TheVariants as fault
use Rattle.txn_tree.specs.Rows.{parent, state, IsParent, IsTree, depth, shown, is_live, is_live_branch, is_committed, is_committed_up}
use Rattle.txn_tree.specs.Limits.{depth_limit, transaction_limit}
use Rattle.txn_tree.specs.Calls.{top_alone, with_state, created, creating, creating_by, is_full, ending, has_ended, is_marked}
use Rattle.txn_tree.specs.Laws.{CommitFollowsParents, TreesStayTrees}
use Rattle.resource_votes.specs.Limits.{list_count}
use Rattle.resource_votes.specs.Lists.{list_at, added_to, handed_lists}
use Rattle.resource_votes.specs.declared.registration.VoteFault.{VoteFault}
use Rattle.resource_votes.specs.Ballots.{Ballots, by_status, registered, registered_aware, registering, adopted}
use Rattle.resource_votes.specs.History.{times, joined, share, Leave}
use Rattle.resource_votes.specs.History.Leave.{nothing, creates, marks, registers, registers_aware, registers_sync, votes, rolls_back, commits}
use Rattle.resource_votes.proofs.ChainLemmas.{same_or_not}
use Rattle.resource_votes.proofs.Upward.{committed, row_before, parent_kept, state_other, state_here, count_kept, not_same, is_same, up_alike, not_up, up_itself, stops, not_both, gains, IsCommit, parent_under, still_committed, now_committed}

pub record AreTallied (rows : List Row) (b : Ballots) (e : List (Option ℕ)) : Type 0 where
  pub tree : IsTree rows
  pub few : length rows ≤ list_count
  pub size : length b.lists ≡ list_count
  pub as_many : length e ≡ length b.registrations
  pub top_open : committed rows 0 ≡ false
  pub known : (i t : ℕ) → joined e i ≡ Some t → t < length rows
  pub empty : (q i : ℕ) → length rows ≤ q → times i (list_at b.lists q) ≡ 0
  pub shares : (q i : ℕ) → q < length rows → committed rows q ≡ false → times i (list_at b.lists q) ≡ share rows q e i

-- a share by whether the transaction was committed up
abbrev pub counted : Bool → ℕ
counted x = if x then 1 else 0

share_by : (o : Option ℕ) (f g : ℕ → Bool) → ((t : ℕ) → o ≡ Some t → f t ≡ g t) → option_map_or (λ t. counted (f t)) o 0 ≡ option_map_or (λ t. counted (g t)) o 0
share_by None f g s = refl
share_by (Some t) f g s = ap counted (s t refl)

share_none : (o : Option ℕ) (f : ℕ → Bool) → ((t : ℕ) → o ≡ Some t → f t ≡ false) → option_map_or (λ t. counted (f t)) o 0 ≡ 0
share_none None f s = refl
share_none (Some t) f s = ap counted (s t refl)

-- what is asked of a branch says how it stands
live_open : (o : Option State) → option_map_or is_live o false ≡ true → option_map_or is_committed o false ≡ false
live_open None h = refl
live_open (Some Active) h = refl
live_open (Some Marked) h = refl
live_open (Some Committed) h = absurd (cc)
live_open (Some RolledBack) h = refl

marked_live : (live : Bool) (f : TreeFault) → (if live then None else Some f) ≡ None → live ≡ true
marked_live true f h = refl
marked_live false f h = absurd (cc)

ending_live : (live out mark : Bool) (f g : TreeFault) → (if not live || out then Some f else if mark then Some g else None) ≡ None → (live ≡ true) × (out ≡ false)
ending_live true true mark f g h = absurd (cc)
ending_live true false mark f g h = (refl, refl)
ending_live false out mark f g h = absurd (cc)

not_out : (live : Bool) → not live ≡ false → live ≡ true
not_out true h = refl
not_out false h = absurd (cc)

first_none : (a b : Option VoteFault) → option_or a b ≡ None → a ≡ None
first_none None b h = refl
first_none (Some f) b h = absurd (cc)

active_open : (o : Option State) → by_status (option_map shown o) ≡ None → option_map_or is_committed o false ≡ false
active_open None h = refl
active_open (Some Active) h = refl
active_open (Some Marked) h = refl
active_open (Some Committed) h = absurd (cc)
active_open (Some RolledBack) h = refl

not_full : (full : Bool) (s : Option State) → creating_by full s ≡ None → full ≡ false
not_full false s h = refl
not_full true None h = absurd (cc)
not_full true (Some Active) h = absurd (cc)
not_full true (Some Marked) h = absurd (cc)
not_full true (Some Committed) h = absurd (cc)
not_full true (Some RolledBack) h = absurd (cc)

has_space : (rows : List Row) (p : ℕ) → creating rows p ≡ None → length rows < 1024
has_space rows p h = below (depth rows p) (length rows) (not_full (is_full rows p) (state rows p) h)
  where
    below : (d n : ℕ) → (nat_le depth_limit d || nat_le transaction_limit n) ≡ false → n < 1024
    below d n h = grind (arith, nat_tests)

before_or_last : (q n : ℕ) → q < n + 1 → (q < n) ⊎ (q ≡ n)
before_or_last q n h = grind arith

-- a further subtransaction
pub tallied_created : CommitFollowsParents → TreesStayTrees → (rows : List Row) (b : Ballots) (e : List (Option ℕ)) (p : ℕ) → AreTallied rows b e → p < length rows → creating rows p ≡ None → AreTallied (created rows p) b e
tallied_created law stays rows b e p h within allowed =
    let longer : length (created rows p) ≡ length rows + 1 = grind (arith, common_steps) in
    let space : length rows < 1024 = has_space rows p allowed in
    record {
      tree = (stays rows h.tree p within).with_a_child;
      few = omega arith;
      size = h.size;
      as_many = h.as_many;
      top_open = same_commits rows p 0 h.tree.some ∙ h.top_open;
      known = λ i t j. omega (arith, h.known i t j, longer);
      empty = λ q i (k : length (created rows p) ≤ q). h.empty q i (omega arith);
      shares = λ q i (k : q < length (created rows p)) o. new_shares law stays rows b e p h within allowed q i (rw longer at k) o;
    }
  where
    same_commits : (rows : List Row) (p q : ℕ) → q < length rows → committed (created rows p) q ≡ committed rows q
    same_commits rows p q k = ap (λ (o : Option Row). option_map_or is_committed (option_map (λ (r : Row). r.state) o) false) (row_before rows (record { parent = Some p; state = Active }) q k)

    same_parents : (rows : List Row) (p q : ℕ) → q < length rows → parent (created rows p) q ≡ parent rows q
    same_parents rows p q k = ap (λ (o : Option Row). option_and_then (λ (r : Row). r.parent) o) (row_before rows (record { parent = Some p; state = Active }) q k)

    new_shares : CommitFollowsParents → TreesStayTrees → (rows : List Row) (b : Ballots) (e : List (Option ℕ)) (p : ℕ) → AreTallied rows b e → p < length rows → creating rows p ≡ None → (q i : ℕ) → q < length rows + 1 → committed (created rows p) q ≡ false → times i (list_at b.lists q) ≡ share (created rows p) q e i
    new_shares law stays rows b e p h within allowed q i k o =
        let longer : length (created rows p) ≡ length rows + 1 = grind (arith, common_steps) in
        let after : IsTree (created rows p) = (stays rows h.tree p within).with_a_child in
        elim (before_or_last q (length rows) k) [
          | inl l ↦
              h.shares q i l (sym (same_commits rows p q l) ∙ o)
              ∙ sym (share_by (joined e i) (λ t. is_committed_up (created rows p) q t) (λ t. is_committed_up rows q t)
              (λ t j. up_alike law rows (created rows p) h.tree after (omega arith) (same_parents rows p) (same_commits rows p) (suc t) q t (omega arith) (h.known i t j)))
          | inr s ↦
              h.empty q i (omega arith)
              ∙ sym (share_none (joined e i) (λ t. is_committed_up (created rows p) q t)
              (λ t j. not_up law (created rows p) after (suc t) q t (omega arith) (omega (arith, s, h.known i t j)) (omega (arith, longer, h.known i t j))))
        ]

-- a branch that stands otherwise from now on, but was not committed
pub tallied_state : CommitFollowsParents → (rows : List Row) (b : Ballots) (e : List (Option ℕ)) (p : ℕ) (s : State) → AreTallied rows b e → p < length rows → IsTree (with_state rows p s) → committed rows p ≡ false → is_committed s ≡ false → AreTallied (with_state rows p s) b e
tallied_state law rows b e p s h within after was is =
    let same : length (with_state rows p s) ≡ length rows = count_kept rows p s in
    record {
      tree = after;
      few = rw same h.few;
      size = h.size;
      as_many = h.as_many;
      top_open = same_commits rows p s within was is 0 ∙ h.top_open;
      known = λ i t j. rw same (h.known i t j);
      empty = λ q i (k : length (with_state rows p s) ≤ q). h.empty q i (rw same at k);
      shares = λ q i (k : q < length (with_state rows p s)) o.
          h.shares q i (rw same at k) (sym (same_commits rows p s within was is q) ∙ o)
          ∙ sym (share_by (joined e i) (λ t. is_committed_up (with_state rows p s) q t) (λ t. is_committed_up rows q t)
          (λ t j. up_alike law rows (with_state rows p s) h.tree after (omega arith) (λ x _. parent_kept rows p s x) (λ x _. same_commits rows p s within was is x) (suc t) q t (omega arith) (h.known i t j)));
    }
  where
    same_commits : (rows : List Row) (p : ℕ) (s : State) → p < length rows → committed rows p ≡ false → is_committed s ≡ false → (q : ℕ) → committed (with_state rows p s) q ≡ committed rows q
    same_commits rows p s within was is q =
        elim (same_or_not q p) [
          | inl t ↦ rw t (ap (λ (o : Option State). option_map_or is_committed o false) (state_here rows p s within) ∙ is ∙ sym was)
          | inr t ↦ ap (λ (o : Option State). option_map_or is_committed o false) (state_other rows p s q t)
        ]

-- one more registration
numbered_before : (e : List (Option ℕ)) (x : Option ℕ) (i : ℕ) → i ≢ length e + 1 → joined (e ++ x ∷ []) i ≡ joined e i
numbered_before e x zero o = refl
numbered_before e x (suc i) o = ap (λ (y : Option (Option ℕ)). option_and_then (λ (t : Option ℕ). t) y) (place e x i (λ k. o (omega arith)))
  where
    place : (e : List (Option ℕ)) (x : Option ℕ) (i : ℕ) → i ≢ length e → slice_get (e ++ x ∷ []) i ≡ slice_get e i
    place [] x zero o = absurd (o refl)
    place [] x (suc i) o = refl
    place (y ∷ e) x zero o = refl
    place (y ∷ e) x (suc i) o = place e x i (λ k. o (ap (λ (n : ℕ). suc n) k))

numbered_last : (e : List (Option ℕ)) (x : Option ℕ) (i : ℕ) → i ≡ length e + 1 → joined (e ++ x ∷ []) i ≡ x
numbered_last e x zero h = absurd (omega arith)
numbered_last e x (suc i) h = ap (λ (y : Option (Option ℕ)). option_and_then (λ (t : Option ℕ). t) y) (place e x i (omega arith))
  where
    place : (e : List (Option ℕ)) (x : Option ℕ) (i : ℕ) → i ≡ length e → slice_get (e ++ x ∷ []) i ≡ Some x
    place [] x zero h = refl
    place [] x (suc i) h = absurd (omega arith)
    place (y ∷ e) x zero h = absurd (omega arith)
    place (y ∷ e) x (suc i) h = place e x i (omega arith)

numbered_past : (e : List (Option ℕ)) (i : ℕ) → i ≡ length e + 1 → joined e i ≡ None
numbered_past e zero h = absurd (omega arith)
numbered_past e (suc i) h = ap (λ (y : Option (Option ℕ)). option_and_then (λ (t : Option ℕ). t) y) (place e i (omega arith))
  where
    place : (e : List (Option ℕ)) (i : ℕ) → i ≡ length e → slice_get e i ≡ None
    place [] i h = refl
    place (y ∷ e) zero h = absurd (omega arith)
    place (y ∷ e) (suc i) h = place e i (omega arith)

pub times_append : (i : ℕ) (xs ys : List ℕ) → times i (xs ++ ys) ≡ times i xs + times i ys
times_append i xs ys = sum_by-append _ xs ys

pub times_itself : (i n : ℕ) → i ≡ n → times i (n ∷ []) ≡ 1
times_itself i n h = rw (h, is_same n) refl

times_other : (i n : ℕ) → i ≢ n → times i (n ∷ []) ≡ 0
times_other i n h = rw (not_same n i (λ e. h (sym e))) refl

pub tallied_registered : CommitFollowsParents → (rows : List Row) (b : Ballots) (e : List (Option ℕ)) (p : ℕ) (to : List ℕ) (aware : Bool) → AreTallied rows b e → p < length rows → registering rows p b ≡ None → AreTallied rows (registered p to aware b) (e ++ Some p ∷ [])
tallied_registered law rows b e p to aware h within allowed =
    let open_here : committed rows p ≡ false = active_open (state rows p) (first_none _ _ allowed) in
    record {
      tree = h.tree;
      few = h.few;
      size = kept_size b.lists p _ ∙ h.size;
      as_many = one_more e b h.as_many;
      top_open = h.top_open;
      known = λ i t j. known_still rows b e p h within i t j;
      empty = λ q i (k : length rows ≤ q).
          ap (λ (xs : List ℕ). times i xs) (get_or-set_other b.lists p q _ [] (λ s. omega (arith, k, within, s))) ∙ h.empty q i k;
      shares = λ q i k o. new_shares law rows b e p h within open_here q i k o;
    }
  where
    kept_size : (lists : List (List ℕ)) (p : ℕ) (xs : List ℕ) → length (slice_set lists p xs) ≡ length lists
    kept_size lists p xs = grind (arith, common_steps)

    one_more : (e : List (Option ℕ)) (b : Ballots) → length e ≡ length b.registrations → length (e ++ Some p ∷ []) ≡ length (registered p to aware b).registrations
    one_more e b h = grind (arith, common_steps)

    known_still : (rows : List Row) (b : Ballots) (e : List (Option ℕ)) (p : ℕ) → AreTallied rows b e → p < length rows → (i t : ℕ) → joined (e ++ Some p ∷ []) i ≡ Some t → t < length rows
    known_still rows b e p h within i t j =
        elim (same_or_not i (length e + 1)) [
          | inl s ↦
              let same : p ≡ t = cc (numbered_last e (Some p) i s, j) in
              rw (← same) within
          | inr s ↦ h.known i t (sym (numbered_before e (Some p) i s) ∙ j)
        ]

    new_shares : CommitFollowsParents → (rows : List Row) (b : Ballots) (e : List (Option ℕ)) (p : ℕ) → AreTallied rows b e → p < length rows → committed rows p ≡ false → (q i : ℕ) → q < length rows → committed rows q ≡ false → times i (list_at (added_to b.lists p (length b.registrations + 1)) q) ≡ share rows q (e ++ Some p ∷ []) i
    new_shares law rows b e p h within open_here q i k o =
        elim (same_or_not q p) [
          | inl s ↦
              let list : list_at (added_to b.lists p (length b.registrations + 1)) q ≡ list_at b.lists p ++ (length b.registrations + 1) ∷ [] =
              rw s (get_or-set_same b.lists p _ [] (omega (arith, within, h.few, h.size))) in
              ap (λ (xs : List ℕ). times i xs) list ∙ times_append i (list_at b.lists p) ((length b.registrations + 1) ∷ [])
              ∙ ap (λ (n : ℕ). n + times i ((length b.registrations + 1) ∷ [])) (h.shares p i within open_here)
              ∙ elim (same_or_not i (length e + 1)) as (λ _. share rows p e i + times i ((length b.registrations + 1) ∷ []) ≡ share rows q (e ++ Some p ∷ []) i) [
                | inl t ↦
                    rw (numbered_past e i t, numbered_last e (Some p) i t, s, up_itself law rows h.tree p within, times_itself i (length b.registrations + 1) (omega (arith, t, h.as_many))) refl
                | inr t ↦
                    rw (numbered_before e (Some p) i t, s, times_other i (length b.registrations + 1) (λ u. t (omega (arith, u, h.as_many)))) (omega arith)
              ]
          | inr s ↦
              ap (λ (xs : List ℕ). times i xs) (get_or-set_other b.lists p q _ [] s) ∙ h.shares q i k o
              ∙ elim (same_or_not i (length e + 1)) as (λ _. share rows q e i ≡ share rows q (e ++ Some p ∷ []) i) [
                | inl t ↦
                    rw (numbered_past e i t, numbered_last e (Some p) i t, stops law rows h.tree q p within (λ u. s (sym u)) open_here) refl
                | inr t ↦ rw (numbered_before e (Some p) i t) refl
              ]
        ]

-- one that takes no part
pub tallied_aware : (rows : List Row) (b : Ballots) (e : List (Option ℕ)) (p : ℕ) (to : List ℕ) → AreTallied rows b e → AreTallied rows (registered_aware p to b) (e ++ None ∷ [])
tallied_aware rows b e p to h =
    record {
      tree = h.tree;
      few = h.few;
      size = h.size;
      as_many = one_more e b h.as_many;
      top_open = h.top_open;
      known = λ i t j. h.known i t (sym (nothing_joined e i) ∙ j);
      empty = h.empty;
      shares = λ q i k o. h.shares q i k o ∙ ap (λ (x : Option ℕ). option_map_or (λ t. counted (is_committed_up rows q t)) x 0) (sym (nothing_joined e i));
    }
  where
    one_more : (e : List (Option ℕ)) (b : Ballots) → length e ≡ length b.registrations → length (e ++ None ∷ []) ≡ length (registered_aware p to b).registrations
    one_more e b h = grind (arith, common_steps)

    nothing_joined : (e : List (Option ℕ)) (i : ℕ) → joined (e ++ None ∷ []) i ≡ joined e i
    nothing_joined e i =
        elim (same_or_not i (length e + 1)) [
          | inl s ↦ numbered_last e None i s ∙ sym (numbered_past e i s)
          | inr s ↦ numbered_before e None i s
        ]

-- a subtransaction's commit
both_counted : (x y : Bool) → (x && y) ≡ false → counted (x || (true && y)) ≡ counted x + counted y
both_counted true true h = absurd (cc)
both_counted true false h = refl
both_counted false true h = refl
both_counted false false h = refl

not_counted : (x y : Bool) → (x || (false && y)) ≡ x
not_counted true y = refl
not_counted false y = refl

shares_join : (o : Option ℕ) (m f g : ℕ → Bool) → ((t : ℕ) → o ≡ Some t → m t ≡ (f t || (true && g t))) → ((t : ℕ) → o ≡ Some t → (f t && g t) ≡ false) → option_map_or (λ t. counted (f t)) o 0 + option_map_or (λ t. counted (g t)) o 0 ≡ option_map_or (λ t. counted (m t)) o 0
shares_join None m f g s n = refl
shares_join (Some t) m f g s n = sym (ap counted (s t refl) ∙ both_counted (f t) (g t) (n t refl))

pub tallied_adopted : CommitFollowsParents → (rows : List Row) (b : Ballots) (e : List (Option ℕ)) (c p : ℕ) → AreTallied rows b e → IsCommit rows c p → AreTallied (with_state rows c Committed) (adopted c p b) e
tallied_adopted law rows b e c p h k =
    let same : length (with_state rows c Committed) ≡ length rows = count_kept rows c Committed in
    let under : p < c = parent_under rows h.tree c p k.within k.parent_is in
    record {
      tree = k.after;
      few = rw same h.few;
      size = kept_size b.lists c p _ ∙ h.size;
      as_many = h.as_many;
      top_open = still_committed rows c 0 (λ s. omega (arith, under, s)) ∙ h.top_open;
      known = λ i t j. rw same (h.known i t j);
      empty = λ q i (l : length (with_state rows c Committed) ≤ q).
          ap (λ (xs : List ℕ). times i xs) (other_list b.lists c p q (λ s. omega (arith, l, same, k.within, s)) (λ s. omega (arith, l, same, k.within, under, s)))
          ∙ h.empty q i (rw same at l);
      shares = λ q i (l : q < length (with_state rows c Committed)) o. new_shares law rows b e c p h k under q i (rw same at l) o;
    }
  where
    kept_size : (lists : List (List ℕ)) (c p : ℕ) (xs : List ℕ) → length (slice_set (slice_set lists c []) p xs) ≡ length lists
    kept_size lists c p xs = grind (arith, common_steps)

    other_list : (lists : List (List ℕ)) (c p q : ℕ) → q ≢ c → q ≢ p → list_at (handed_lists lists c p) q ≡ list_at lists q
    other_list lists c p q oc op = get_or-set_other (slice_set lists c []) p q _ [] op ∙ get_or-set_other lists c q [] [] oc

    set_size : (lists : List (List ℕ)) (c : ℕ) → length (slice_set lists c []) ≡ length lists
    set_size lists c = grind (arith, common_steps)

    new_shares : CommitFollowsParents → (rows : List Row) (b : Ballots) (e : List (Option ℕ)) (c p : ℕ) → AreTallied rows b e → IsCommit rows c p → p < c → (q i : ℕ) → q < length rows → committed (with_state rows c Committed) q ≡ false → times i (list_at (handed_lists b.lists c p) q) ≡ share (with_state rows c Committed) q e i
    new_shares law rows b e c p h k under q i l o =
        let not_child : q ≢ c = λ s. cc (o, now_committed rows c k.within, s) in
        elim (same_or_not q p) [
          | inl s ↦
              let list : list_at (handed_lists b.lists c p) q ≡ list_at b.lists p ++ list_at b.lists c =
              rw s (get_or-set_same (slice_set b.lists c []) p _ [] (rw (set_size b.lists c) (omega (arith, under, k.within, h.few, h.size)))) in
              let own : p < length rows = omega (arith, under, k.within) in
              let differ : p ≢ c = λ t. omega (arith, under, t) in
              ap (λ (xs : List ℕ). times i xs) list ∙ times_append i (list_at b.lists p) (list_at b.lists c)
              ∙ ap (λ (n : ℕ). n + times i (list_at b.lists c)) (h.shares p i own k.parent_open)
              ∙ ap (λ (n : ℕ). share rows p e i + n) (h.shares c i k.within k.child_open)
              ∙ shares_join (joined e i) (λ t. is_committed_up (with_state rows c Committed) p t) (λ t. is_committed_up rows p t) (λ t. is_committed_up rows c t)
              (λ t j. gains law rows c p k p differ own (suc t) t (omega arith) (h.known i t j) ∙ ap (λ (x : Bool). is_committed_up rows p t || (x && is_committed_up rows c t)) (is_same p))
              (λ t j. not_both law rows h.tree p c differ k.parent_open k.child_open (suc t) t (omega arith) (h.known i t j))
              ∙ ap (λ (n : ℕ). share (with_state rows c Committed) n e i) (sym s)
          | inr s ↦
              ap (λ (xs : List ℕ). times i xs) (other_list b.lists c p q not_child s)
              ∙ h.shares q i l (sym (still_committed rows c q not_child) ∙ o)
              ∙ sym (share_by (joined e i) (λ t. is_committed_up (with_state rows c Committed) q t) (λ t. is_committed_up rows q t)
              (λ t j. gains law rows c p k q not_child l (suc t) t (omega arith) (h.known i t j)
              ∙ ap (λ (x : Bool). is_committed_up rows q t || (x && is_committed_up rows c t)) (not_same q p s)
              ∙ not_counted (is_committed_up rows q t) (is_committed_up rows c t)))
        ]

-- all accepted calls
nobody : (i : ℕ) → joined [] i ≡ None
nobody zero = refl
nobody (suc i) = refl

empty_list : (n q : ℕ) → list_at (replicate n []) q ≡ []
empty_list zero q = refl
empty_list (suc n) zero = refl
empty_list (suc n) (suc q) = empty_list n q

top_tree : IsTree top_alone
top_tree = record { some = omega arith; parents = λ b (h : b < 1). only_top b h }
  where
    only_top : (b : ℕ) → b < 1 → IsParent b (parent top_alone b)
    only_top zero h = refl
    only_top (suc b) h = absurd (omega arith)

begin_tallied : (n : ℕ) → n ≡ list_count → AreTallied top_alone (record { registrations = []; votes = []; synchronizations = []; lists = replicate n [] }) []
begin_tallied n is = record {
  tree = top_tree;
  few = omega arith;
  size = length-replicate n [] ∙ is;
  as_many = refl;
  top_open = refl;
  known = λ i t j. absurd (some_nobody i t j);
  empty = λ q i _. ap (λ (xs : List ℕ). times i xs) (empty_list n q);
  shares = λ q i _ _. ap (λ (xs : List ℕ). times i xs) (empty_list n q) ∙ sym (ap (λ (o : Option ℕ). option_map_or (λ t. counted (is_committed_up top_alone q t)) o 0) (nobody i));
}
  where
    some_nobody : (i t : ℕ) → joined [] i ≡ Some t → ⊥
    some_nobody i t j = cc (nobody i, j)

commit_of : TreesStayTrees → (rows : List Row) (c p : ℕ) → IsTree rows → c < length rows → parent rows c ≡ Some p → ending rows c true ≡ None → IsCommit rows c p
commit_of stays rows c p t within its allowed =
    let says = ending_live (is_live_branch rows c) (has_ended rows (parent rows c)) (is_marked (state rows c)) fault.Inactive fault.MarkedAlready allowed in
    record {
      tree = t;
      after = (stays rows t c within).with_an_end true;
      within = within;
      parent_is = its;
      parent_open = live_open (state rows p) (not_out (is_live_branch rows p) (rw its at says.1));
      child_open = live_open (state rows c) says.0;
    }

pub tallied : CommitFollowsParents → TreesStayTrees → (rows : List Row) (b : Ballots) (e : List (Option ℕ)) → Leave rows b e → AreTallied rows b e
tallied law stays _ _ _ nothing = begin_tallied list_count refl
tallied law stays _ _ _ (creates rows b e p l within allowed) =
    tallied_created law stays rows b e p (tallied law stays rows b e l) within allowed
tallied law stays _ _ _ (marks rows b e p l within allowed) =
    let h = tallied law stays rows b e l in
    tallied_state law rows b e p Marked h within (stays rows h.tree p within).with_a_mark
    (live_open (state rows p) (marked_live (is_live_branch rows p) fault.Inactive allowed)) refl
tallied law stays _ _ _ (registers rows b e p to aware l within allowed) =
    tallied_registered law rows b e p to aware (tallied law stays rows b e l) within allowed
tallied law stays _ _ _ (registers_aware rows b e p to l within allowed) =
    tallied_aware rows b e p to (tallied law stays rows b e l)
tallied law stays _ _ _ (registers_sync rows b e p to l within allowed) =
    let h = tallied law stays rows b e l in
    record { tree = h.tree; few = h.few; size = h.size; as_many = h.as_many; top_open = h.top_open; known = h.known; empty = h.empty; shares = h.shares }
tallied law stays _ _ _ (votes rows b e registration v l some there) =
    let h = tallied law stays rows b e l in
    record { tree = h.tree; few = h.few; size = h.size; as_many = h.as_many; top_open = h.top_open; known = h.known; empty = h.empty; shares = h.shares }
tallied law stays _ _ _ (rolls_back rows b e p l within allowed) =
    let h = tallied law stays rows b e l in
    tallied_state law rows b e p RolledBack h within ((stays rows h.tree p within).with_an_end false)
    (live_open (state rows p) (ending_live (is_live_branch rows p) false false fault.Inactive fault.MarkedAlready allowed).0) refl
tallied law stays _ _ _ (commits rows b e child p l within its allowed) =
    let h = tallied law stays rows b e l in
    tallied_adopted law rows b e child p h (commit_of stays rows child p h.tree within its allowed)
