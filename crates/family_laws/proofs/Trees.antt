-- What a commit, a rollback, a mark and a new subtransaction make of a tree.
use Rattle.std.proofs.Common.{◌≡◌, ◌≢◌, ◌⊎◌, inl, inr, ℕ, ◌+◌, ◌<◌, ◌≤◌, ◌==◌, ◌&&◌, ◌||◌, not, Bool, true, false, zero, suc, List, [], ◌∷◌, ◌++◌, length, Option, Some, None, MatchOption, if◌then◌else◌, refl, ap, sym, subst, ◌∙◌, arith}
use Rattle.std.proofs.lemmas.Grind.{common_steps}
use Rattle.std.specs.List.{slice_get}
use Rattle.std.specs.Option.{option_map, option_map_or, option_and_then}
use Rattle.txn_tree.specs.Rows.{parent, state, IsTree, IsParent, is_live, is_live_branch, is_ancestor, is_committed, is_committed_up}
use Rattle.txn_tree.specs.Calls.{created, ended, marked, with_state, end_state, live_under, is_live_below}
use Rattle.txn_tree.specs.declared.row.Row.{Row}
use Rattle.txn_tree.specs.declared.row.State.{State}
use Rattle.txn_tree.specs.declared.row.State.TheVariants.{Active, Marked, Committed, RolledBack}
use Rattle.txn_tree.specs.Laws.{IsNext}
use Rattle.family_laws.specs.Trees.{IsUpTo, IsCutOff, UpToIsCommittedUp}
use Rattle.family_laws.specs.Trees.IsUpTo.{same, further}
use Rattle.family_laws.specs.Trees.IsCutOff.{itself, above}
use Rattle.family_laws.specs.LawsBelow.{Laws}

pub same_or_not : (a b : ℕ) → (a ≡ b) ⊎ (a ≢ b)
same_or_not a b = grind arith

-- a state that is live is neither of the others
pub live_open : (rs : List Row) (b : ℕ) → is_live_branch rs b ≡ true → state rs b ≢ Some Committed
live_open rs b h e = absurd (cc (sym (rw e at h)))

pub live_kept : (rs : List Row) (b : ℕ) → is_live_branch rs b ≡ true → state rs b ≢ Some RolledBack
live_kept rs b h e = absurd (cc (sym (rw e at h)))

none_within : (rs : List Row) (b : ℕ) → b < length rs → state rs b ≢ None
none_within [] b k e = absurd (omega arith)
none_within (r ∷ rs) zero k e = absurd (cc e)
none_within (r ∷ rs) (suc b) k e = none_within rs b (omega arith) e

past_none : (rs : List Row) (b : ℕ) → length rs ≤ b → state rs b ≡ None
past_none [] b k = refl
past_none (r ∷ rs) zero k = absurd (omega arith)
past_none (r ∷ rs) (suc b) k = past_none rs b (omega arith)

dec_lt : (a b : ℕ) → (a < b) ⊎ (b ≤ a)
dec_lt a b = grind arith

pub live_within : (rs : List Row) (b : ℕ) → is_live_branch rs b ≡ true → b < length rs
live_within rs b h =
    elim (dec_lt b (length rs)) [
      | inl l ↦ l
      | inr p ↦ absurd (cc (sym (rw (past_none rs b p) at h)))
    ]

-- ---- another state at one place

pub state_other : (rs : List Row) (b : ℕ) (s : State) (q : ℕ) → q ≢ b → state (with_state rs b s) q ≡ state rs q
state_other [] b s q o = refl
state_other (r ∷ rs) zero s zero o = absurd (o refl)
state_other (r ∷ rs) zero s (suc q) o = refl
state_other (r ∷ rs) (suc b) s zero o = refl
state_other (r ∷ rs) (suc b) s (suc q) o = state_other rs b s q (λ e. o (ap (λ (n : ℕ). suc n) e))

pub state_here : (rs : List Row) (b : ℕ) (s : State) → b < length rs → state (with_state rs b s) b ≡ Some s
state_here [] b s h = absurd (omega arith)
state_here (r ∷ rs) zero s h = refl
state_here (r ∷ rs) (suc b) s h = state_here rs b s (omega arith)

-- ---- chains

pub up_map : (rs more : List Row) → ((c p : ℕ) → state rs c ≡ Some Committed → parent rs c ≡ Some p → (state more c ≡ Some Committed) × (parent more c ≡ Some p))
    → (b c : ℕ) → IsUpTo rs b c → IsUpTo more b c
up_map rs more m b _ same = same
up_map rs more m b _ (further c p s e u) = further c p (m c p s e).0 (m c p s e).1 (up_map rs more m b p u)

pub cut_map : (rs more : List Row) → ((c : ℕ) → state rs c ≡ Some RolledBack → state more c ≡ Some RolledBack)
    → ((c p : ℕ) → parent rs c ≡ Some p → parent more c ≡ Some p) → (b : ℕ) → IsCutOff rs b → IsCutOff more b
cut_map rs more m n _ (itself b s) = itself b (m b s)
cut_map rs more m n _ (above b p e u) = above b p (n b p e) (cut_map rs more m n p u)

pub up_joined : (rs : List Row) (a b c : ℕ) → IsUpTo rs a b → IsUpTo rs b c → IsUpTo rs a c
up_joined rs a b _ u same = u
up_joined rs a b _ u (further c p s e v) = further c p s e (up_joined rs a b p u v)

pub cut_below : (rs : List Row) (b c : ℕ) → IsCutOff rs b → IsUpTo rs b c → IsCutOff rs c
cut_below rs b _ k same = k
cut_below rs b _ k (further c p s e v) = above c p e (cut_below rs b p k v)

-- one that was not committed is up to itself alone
pub up_open : (rs : List Row) (a b : ℕ) → state rs b ≢ Some Committed → IsUpTo rs a b → b ≡ a
up_open rs a b n u = go b u n
  where
    go : (c : ℕ) → IsUpTo rs a c → state rs c ≢ Some Committed → c ≡ a
    go _ same n = refl
    go _ (further c p s e v) n = absurd (n s)

pub up_top : (rs : List Row) (a b : ℕ) → parent rs b ≡ None → IsUpTo rs a b → b ≡ a
up_top rs a b n u = go b u n
  where
    go : (c : ℕ) → IsUpTo rs a c → parent rs c ≡ None → c ≡ a
    go _ same n = refl
    go _ (further c p s e v) n = absurd (cc (sym n ∙ e))

-- ---- chains are those of the definition of trees

up_committed : Laws → (rs : List Row) → IsTree rs → (b c : ℕ) → c < length rs → IsUpTo rs b c → is_committed_up rs b c ≡ true
up_committed law rs t b _ k same = law.commits rs t b b k ∙ by_itself (b == b) (grind arith)
  where
    by_itself : (x : Bool) → x ≡ true → (x || (option_map_or is_committed (state rs b) false && option_map_or (λ p. is_committed_up rs b p) (parent rs b) false)) ≡ true
    by_itself true e = refl
    by_itself false e = absurd (cc e)
up_committed law rs t b _ k (further c p s e u) =
    let under : p < c = law.earlier rs t c p k e in
    law.commits rs t b c k ∙ by_parent (c == b) (state rs c) (parent rs c) s e (up_committed law rs t b p (omega (arith, under, k)) u)
  where
    by_parent : (x : Bool) (o : Option State) (above_it : Option ℕ) → o ≡ Some Committed → above_it ≡ Some p → is_committed_up rs b p ≡ true
        → (x || (option_map_or is_committed o false && option_map_or (λ q. is_committed_up rs b q) above_it false)) ≡ true
    by_parent true o above_it i j h = refl
    by_parent false o above_it i j h = rw (i, j) h

same_place : (c b : ℕ) → (c == b) ≡ true → c ≡ b
same_place c b e = grind (arith, e)

committed_up : Laws → (rs : List Row) → IsTree rs → (b n c : ℕ) → c < n → c < length rs → is_committed_up rs b c ≡ true → IsUpTo rs b c
committed_up law rs t b zero c i k h = absurd (omega (arith, i))
committed_up law rs t b (suc n) c i k h =
    by_step (λ p (under : p < c). committed_up law rs t b n p (omega (arith, under, i)) (omega (arith, under, k))) (c == b) refl (sym (law.commits rs t b c k) ∙ h)
  where
    by_parent : ((p : ℕ) → p < c → is_committed_up rs b p ≡ true → IsUpTo rs b p) → (o : Option State) → state rs c ≡ o → (above_it : Option ℕ) → parent rs c ≡ above_it
        → (option_map_or is_committed o false && option_map_or (λ p. is_committed_up rs b p) above_it false) ≡ true → IsUpTo rs b c
    by_parent higher (Some Committed) s (Some p) e g = further c p s e (higher p (law.earlier rs t c p k e) g)
    by_parent higher (Some Committed) s None e g = absurd (cc g)
    by_parent higher (Some Active) s o e g = absurd (cc g)
    by_parent higher (Some Marked) s o e g = absurd (cc g)
    by_parent higher (Some RolledBack) s o e g = absurd (cc g)
    by_parent higher None s o e g = absurd (cc g)

    by_step : ((p : ℕ) → p < c → is_committed_up rs b p ≡ true → IsUpTo rs b p) → (x : Bool) → (c == b) ≡ x
        → (x || (option_map_or is_committed (state rs c) false && option_map_or (λ p. is_committed_up rs b p) (parent rs c) false)) ≡ true → IsUpTo rs b c
    by_step higher true e g = subst (IsUpTo rs b) (sym (same_place c b e)) same
    by_step higher false e g = by_parent higher (state rs c) refl (parent rs c) refl g

pub up_to_is_committed_up : Laws → UpToIsCommittedUp
up_to_is_committed_up law rs t b c k = (up_committed law rs t b c k, committed_up law rs t b (suc c) c (omega arith) k)

-- ---- a live branch is marked or rolled back: chains stay, and what is cut off

pub back_up : Laws → (rs : List Row) (d : ℕ) (s : State) → is_live_branch rs d ≡ true → (b c : ℕ) → IsUpTo rs b c → IsUpTo (with_state rs d s) b c
back_up law rs d s live = up_map rs (with_state rs d s)
    (λ c p t e. (state_other rs d s c (λ same. live_open rs d live (rw same at t)) ∙ t, ((law.keep rs d).with_a_state s).parents c ∙ e))

pub back_down : Laws → (rs : List Row) (d : ℕ) (s : State) → is_live_branch rs d ≡ true → s ≢ Committed → (b c : ℕ) → IsUpTo (with_state rs d s) b c → IsUpTo rs b c
back_down law rs d s live apart = up_map (with_state rs d s) rs
    (λ c p t e.
    let o : c ≢ d = λ same. absurd (apart (cc (sym (state_here rs d s (live_within rs d live)) ∙ rw same at t))) in
    (sym (state_other rs d s c o) ∙ t, sym (((law.keep rs d).with_a_state s).parents c) ∙ e))

pub cut_stays : Laws → (rs : List Row) (d : ℕ) (s : State) → is_live_branch rs d ≡ true → (b : ℕ) → IsCutOff rs b → IsCutOff (with_state rs d s) b
cut_stays law rs d s live = cut_map rs (with_state rs d s)
    (λ c t. state_other rs d s c (λ same. live_kept rs d live (rw same at t)) ∙ t)
    (λ c p e. ((law.keep rs d).with_a_state s).parents c ∙ e)

pub cut_here : (rs : List Row) (d : ℕ) → is_live_branch rs d ≡ true → IsCutOff (ended rs d false) d
cut_here rs d live = itself d (state_here rs d RolledBack (live_within rs d live))

-- who else is live stays so
pub live_other : (rs : List Row) (d : ℕ) (s : State) (q : ℕ) → q ≢ d → is_live_branch (with_state rs d s) q ≡ is_live_branch rs q
live_other rs d s q o = ap (λ (t : Option State). option_map_or is_live t false) (state_other rs d s q o)

pub live_marked : (rs : List Row) (d : ℕ) → is_live_branch rs d ≡ true → (q : ℕ) → is_live_branch rs q ≡ true → is_live_branch (marked rs d) q ≡ true
live_marked rs d live q h =
    elim (same_or_not q d) [
      | inl e ↦ rw e (ap (λ (t : Option State). option_map_or is_live t false) (state_here rs d Marked (live_within rs d live)))
      | inr o ↦ live_other rs d Marked q o ∙ h
    ]

-- nobody becomes live where a live one changes
pub live_before : (rs : List Row) (d : ℕ) (s : State) → is_live_branch rs d ≡ true → (q : ℕ) → is_live_branch (with_state rs d s) q ≡ true → is_live_branch rs q ≡ true
live_before rs d s live q h =
    elim (same_or_not q d) [
      | inl e ↦ rw e live
      | inr o ↦ sym (live_other rs d s q o) ∙ h
    ]

pub ended_not_live : (rs : List Row) (d : ℕ) (committed : Bool) → is_live_branch rs d ≡ true → is_live_branch (ended rs d committed) d ≡ true → ⊥
ended_not_live rs d committed live h = go committed (sym (ap (λ (t : Option State). option_map_or is_live t false) (state_here rs d (end_state committed) (live_within rs d live))) ∙ h)
  where
    go : (k : Bool) → is_live (end_state k) ≡ true → ⊥
    go true e = absurd (cc e)
    go false e = absurd (cc e)

-- ---- a live branch is committed into its parent

pub split : Laws → (rs : List Row) (b p : ℕ) → parent rs b ≡ Some p → (x y : ℕ) → IsUpTo (ended rs b true) x y
    → IsUpTo rs x y ⊎ (IsUpTo rs b y × IsUpTo (ended rs b true) x p)
split law rs b p is x _ same = inl same
split law rs b p is x _ (further c q s e v) = step c q s e v (split law rs b p is x q v)
  where
    onward : (c q : ℕ) → state rs c ≡ Some Committed → parent rs c ≡ Some q
        → IsUpTo rs x q ⊎ (IsUpTo rs b q × IsUpTo (ended rs b true) x p)
        → IsUpTo rs x c ⊎ (IsUpTo rs b c × IsUpTo (ended rs b true) x p)
    onward c q s e (inl u) = inl (further c q s e u)
    onward c q s e (inr u) = inr (further c q s e u.0, u.1)

    here : (c q : ℕ) → c ≡ b → parent rs c ≡ Some q → IsUpTo (ended rs b true) x q
        → IsUpTo rs x c ⊎ (IsUpTo rs b c × IsUpTo (ended rs b true) x p)
    here c q i e v =
        let j : q ≡ p = cc (sym (rw i at e) ∙ is) in
        inr (rw i same, rw j at v)

    step : (c q : ℕ) → state (ended rs b true) c ≡ Some Committed → parent (ended rs b true) c ≡ Some q → IsUpTo (ended rs b true) x q
        → IsUpTo rs x q ⊎ (IsUpTo rs b q × IsUpTo (ended rs b true) x p)
        → IsUpTo rs x c ⊎ (IsUpTo rs b c × IsUpTo (ended rs b true) x p)
    step c q s e v r =
        elim (same_or_not c b) [
          | inl i ↦ here c q i (sym (((law.keep rs b).with_a_state Committed).parents c) ∙ e) v
          | inr o ↦ onward c q (sym (state_other rs b Committed c o) ∙ s) (sym (((law.keep rs b).with_a_state Committed).parents c) ∙ e) r
        ]

-- it is committed up to its parent then
pub up_here : Laws → (rs : List Row) (b p : ℕ) → is_live_branch rs b ≡ true → parent rs b ≡ Some p → IsUpTo (ended rs b true) p b
up_here law rs b p live is =
    further b p (state_here rs b Committed (live_within rs b live)) (((law.keep rs b).with_a_state Committed).parents b ∙ is) same

-- ---- a new subtransaction

row_before : (rs : List Row) (r : Row) (q : ℕ) → q < length rs → slice_get (rs ++ r ∷ []) q ≡ slice_get rs q
row_before [] r q h = absurd (omega arith)
row_before (x ∷ rs) r zero h = refl
row_before (x ∷ rs) r (suc q) h = row_before rs r q (omega arith)

row_last : (rs : List Row) (r : Row) → slice_get (rs ++ r ∷ []) (length rs) ≡ Some r
row_last [] r = refl
row_last (x ∷ rs) r = row_last rs r

state_within : (rs : List Row) (b : ℕ) (s : State) → state rs b ≡ Some s → b < length rs
state_within rs b s e =
    elim (dec_lt b (length rs)) [
      | inl l ↦ l
      | inr p ↦ absurd (cc (sym (past_none rs b p) ∙ e))
    ]

parent_within : (rs : List Row) (b p : ℕ) → parent rs b ≡ Some p → b < length rs
parent_within [] b p e = absurd (cc e)
parent_within (r ∷ rs) zero p e = omega arith
parent_within (r ∷ rs) (suc b) p e = omega (arith, parent_within rs b p e)

pub state_before : (rs : List Row) (b q : ℕ) → q < length rs → state (created rs b) q ≡ state rs q
state_before rs b q k = ap (λ (o : Option Row). option_map (λ (r : Row). r.state) o) (row_before rs (record { parent = Some b; state = Active }) q k)

parent_before : (rs : List Row) (b q : ℕ) → q < length rs → parent (created rs b) q ≡ parent rs q
parent_before rs b q k = ap (λ (o : Option Row). option_and_then (λ (r : Row). r.parent) o) (row_before rs (record { parent = Some b; state = Active }) q k)

state_last : (rs : List Row) (b : ℕ) → state (created rs b) (length rs) ≡ Some Active
state_last rs b = ap (λ (o : Option Row). option_map (λ (r : Row). r.state) o) (row_last rs (record { parent = Some b; state = Active }))

pub grown_up : (rs : List Row) (b : ℕ) → (x y : ℕ) → IsUpTo rs x y → IsUpTo (created rs b) x y
grown_up rs b = up_map rs (created rs b)
    (λ c p s e. (state_before rs b c (state_within rs c Committed s) ∙ s, parent_before rs b c (parent_within rs c p e) ∙ e))

length_grown : (rs : List Row) (r : Row) → length (rs ++ r ∷ []) ≡ suc (length rs)
length_grown rs r = grind (arith, common_steps)

less_or_last : (q n : ℕ) → q < suc n → (q < n) ⊎ (q ≡ n)
less_or_last q n k = grind arith

old_committed : (rs : List Row) (b c : ℕ) → state (created rs b) c ≡ Some Committed → c < length rs
old_committed rs b c s =
    elim (less_or_last c (length rs) (let k = state_within (created rs b) c Committed s in let l = length_grown rs (record { parent = Some b; state = Active }) in omega (arith, k, l))) [
      | inl l ↦ l
      | inr e ↦ absurd (cc (sym (state_last rs b) ∙ rw e at s))
    ]

pub grown_down : (rs : List Row) (b : ℕ) → (x y : ℕ) → IsUpTo (created rs b) x y → IsUpTo rs x y
grown_down rs b = up_map (created rs b) rs
    (λ c p s e.
    let k : c < length rs = old_committed rs b c s in
    (sym (state_before rs b c k) ∙ s, sym (parent_before rs b c k) ∙ e))

pub grown_cut : (rs : List Row) (b : ℕ) → (c : ℕ) → IsCutOff rs c → IsCutOff (created rs b) c
grown_cut rs b = cut_map rs (created rs b)
    (λ c s. state_before rs b c (state_within rs c RolledBack s) ∙ s)
    (λ c p e. parent_before rs b c (parent_within rs c p e) ∙ e)

pub grown_live : (rs : List Row) (b q : ℕ) → is_live_branch rs q ≡ true → is_live_branch (created rs b) q ≡ true
grown_live rs b q h = ap (λ (t : Option State). option_map_or is_live t false) (state_before rs b q (live_within rs q h)) ∙ h

-- ---- who is rolled back next

and_left : (a b : Bool) → (a && b) ≡ true → a ≡ true
and_left true b h = refl
and_left false b h = absurd (cc h)

and_right : (a b : Bool) → (a && b) ≡ true → b ≡ true
and_right true b h = h
and_right false b h = absurd (cc h)

-- a branch lies above none that was made before it
no_later_ancestor : Laws → (rs : List Row) → IsTree rs → (a n b : ℕ) → b < n → b < length rs → b < a → is_ancestor rs a b ≡ false
no_later_ancestor law rs t a zero b i k l = absurd (omega (arith, i))
no_later_ancestor law rs t a (suc n) b i k l =
    law.ancestry rs t a b k
    ∙ neither (λ p (under : p < b). no_later_ancestor law rs t a n p (omega (arith, under, i)) (omega (arith, under, k)) (omega (arith, under, l)))
    (b == a) (grind arith) (parent rs b) (t.parents b k)
  where
    neither : ((p : ℕ) → p < b → is_ancestor rs a p ≡ false) → (x : Bool) → x ≡ false → (o : Option ℕ) → IsParent b o
        → (x || option_map_or (λ p. is_ancestor rs a p) o false) ≡ false
    neither higher true e o h = absurd (cc e)
    neither higher false e None h = refl
    neither higher false e (Some p) h = higher p h

-- the one that is found is live, and was made later
pub record IsLaterLive (rs : List Row) (b d : ℕ) : Type 0 where
  pub live : is_live_branch rs d ≡ true
  pub later : b < d

later_live : Laws → (rs : List Row) → IsTree rs → (b d : ℕ) → is_live_below rs b d ≡ true → IsLaterLive rs b d
later_live law rs t b d h =
    let first : (is_live_branch rs d && not (d == b)) ≡ true = and_left _ _ h in
    let rest : is_ancestor rs b d ≡ true = and_right (is_live_branch rs d && not (d == b)) (is_ancestor rs b d) h in
    let live : is_live_branch rs d ≡ true = and_left _ _ first in
    let within : d < length rs = live_within rs d live in
    record {
      live = live;
      later = order b d (and_right _ _ first) (λ l. absurd (cc (sym (no_later_ancestor law rs t b (suc d) d (omega arith) within l) ∙ rest)));
    }
  where
    order : (b d : ℕ) → not (d == b) ≡ true → (d < b → ⊥) → b < d
    order b d n k = place b d (λ e. absurd (cc (sym (rw (not_itself d b e) at n)))) k (three b d)
      where
        not_itself : (d b : ℕ) → d ≡ b → (d == b) ≡ true
        not_itself d b e = grind arith

        three : (b d : ℕ) → (b < d) ⊎ ((d < b) ⊎ (d ≡ b))
        three b d = grind arith

        place : (b d : ℕ) → (d ≡ b → ⊥) → (d < b → ⊥) → (b < d) ⊎ ((d < b) ⊎ (d ≡ b)) → b < d
        place b d n k (inl l) = l
        place b d n k (inr (inl l)) = absurd (k l)
        place b d n k (inr (inr e)) = absurd (n e)

pub next_live : Laws → (rs : List Row) → IsTree rs → (b d : ℕ) → live_under rs b ≡ Some d → IsLaterLive rs b d
next_live law rs t b d is = later_live law rs t b d (found (live_under rs b) is (law.next rs b)).live
  where
    found : (o : Option ℕ) → o ≡ Some d → MatchOption o ((q : ℕ) → q < length rs → is_live_below rs b q ≡ false) (IsNext rs b) → IsNext rs b d
    found None e h = absurd (cc e)
    found (Some r) e h = let i : r ≡ d = cc e in rw i at h

-- where none is found below the top, none is live
abbrev pub NoneLive : List Row → Type 0
NoneLive rs = (q : ℕ) → 0 < q → is_live_branch rs q ≡ true → ⊥

pub none_live : Laws → (rs : List Row) → IsTree rs → live_under rs 0 ≡ None → NoneLive rs
none_live law rs t is q p live = absurd (cc (sym (below live ((law.related rs t q q within within).0) (other q p)) ∙ found (live_under rs 0) is (law.next rs 0) q within))
  where
    within : q < length rs
    within = live_within rs q live

    other : (q : ℕ) → 0 < q → (q == 0) ≡ false
    other q p = grind arith

    found : (o : Option ℕ) → o ≡ None → MatchOption o ((q : ℕ) → q < length rs → is_live_below rs 0 q ≡ false) (IsNext rs 0) → (q : ℕ) → q < length rs → is_live_below rs 0 q ≡ false
    found None e h = h
    found (Some r) e h = absurd (cc e)

    all : (a b c : Bool) → a ≡ true → b ≡ true → c ≡ false → (a && not c && b) ≡ true
    all true true false e g k = refl
    all true true true e g k = absurd (cc k)
    all true false c e g k = absurd (cc g)
    all false b c e g k = absurd (cc e)

    below : is_live_branch rs q ≡ true → is_ancestor rs 0 q ≡ true → (q == 0) ≡ false → is_live_below rs 0 q ≡ true
    below l a o = all (is_live_branch rs q) (is_ancestor rs 0 q) (q == 0) l a o

-- ---- how many are live

abbrev pub count_live : List Row → ℕ
count_live [] = 0
count_live (r ∷ rs) = (if is_live r.state then 1 else 0) + count_live rs

live_at_most : (rs : List Row) (b : Bool) → count_live rs ≤ length rs → (if b then 1 else 0) + count_live rs ≤ suc (length rs)
live_at_most rs true h = omega (arith, h)
live_at_most rs false h = omega (arith, h)

pub few_live : (rs : List Row) → count_live rs ≤ length rs
few_live [] = omega arith
few_live (r ∷ rs) = live_at_most rs (is_live r.state) (few_live rs)

fewer : (x : Bool) (n : ℕ) → x ≡ true → (if x then 1 else 0) + n ≡ suc (0 + n)
fewer true n e = omega arith
fewer false n e = absurd (cc e)

pub one_less : (rs : List Row) (d : ℕ) → is_live_branch rs d ≡ true → count_live rs ≡ suc (count_live (ended rs d false))
one_less [] d h = absurd (cc h)
one_less (r ∷ rs) zero h = fewer (is_live r.state) (count_live rs) h
one_less (r ∷ rs) (suc d) h = let e = one_less rs d h in omega (arith, e)

none_counted : (x : Bool) (n : ℕ) → (if x then 1 else 0) + n ≡ 0 → (x ≡ false) × (n ≡ 0)
none_counted true n e = absurd (omega (arith, e))
none_counted false n e = (refl, omega (arith, e))

pub no_live : (rs : List Row) → count_live rs ≡ 0 → (q : ℕ) → is_live_branch rs q ≡ true → ⊥
no_live [] e q h = absurd (cc h)
no_live (r ∷ rs) e zero h = absurd (cc (sym ((none_counted (is_live r.state) (count_live rs) e).0) ∙ h))
no_live (r ∷ rs) e (suc q) h = no_live rs (none_counted (is_live r.state) (count_live rs) e).1 q h
