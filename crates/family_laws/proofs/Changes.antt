-- What stays sound where a tree, its lists or a completion changes.
use Rattle.std.proofs.Common.{◌≡◌, ◌≢◌, ◌⊎◌, inl, inr, ℕ, ◌<◌, List, [], ◌∷◌, length, map, Bool, true, false, Some, refl, ap, sym, subst, ◌∙◌, ◌+◌, ◌++◌, slice_set, arith}
use Rattle.std.specs.List.{AllByRecursion}
use Rattle.txn_tree.specs.Rows.{parent, state, is_live_branch}
use Rattle.txn_tree.specs.Calls.{created, ended, with_state}
use Rattle.txn_tree.specs.declared.row.Row.{Row}
use Rattle.txn_tree.specs.declared.row.State.{State}
use Rattle.txn_tree.specs.declared.row.State.TheVariants.{Committed, Active}
use Rattle.resource_votes.specs.Ballots.{Ballots, participants, adopted, registered, registered_aware}
use Rattle.resource_votes.specs.declared.registration.Registration.{Registration}
use Rattle.two_phase.specs.Parties.{party_of}
use Rattle.two_phase.specs.Stages.{Standing, Waiting, Going as UnderWay}
use Rattle.two_phase.specs.declared.party.Party.{Party}
use Rattle.coordinator.specs.declared.call.Stage.{Stage}
use Rattle.coordinator.specs.Phases.{is_before}
use Rattle.family_laws.specs.Trees.{IsUpTo}
use Rattle.family_laws.specs.Trees.IsUpTo.{same}
use Rattle.family_laws.specs.Sound.{NoneLive, IsSoundLists, IsSoundCompletion}
use Rattle.family_laws.specs.LawsBelow.{Laws}
use Rattle.family_laws.proofs.Trees.{up_joined, up_open, back_up, back_down, split, up_here, live_open, grown_up, grown_down, grown_live}
use Rattle.family_laws.proofs.Lists.{all_joined, all_map, adopted_cases, registered_cases, aware_same, numbers_adopted, numbers_registered, numbers_aware, new_one}
use Rattle.std.proofs.lemmas.Grind.{common_steps}
use Rattle.resource_votes.specs.Limits.{list_count}
use Rattle.resource_votes.specs.Lists.{list_at}

-- ---- lists

abbrev pub Listed : List Row → ℕ → Registration → Type 0
Listed rs b r = IsUpTo rs b r.branch

abbrev pub Highest : List Row → ℕ → Registration → Type 0
Highest rs b r = (c : ℕ) → IsUpTo rs c r.branch → IsUpTo rs b c

lists_kept : (lists : List (List ℕ)) (b : ℕ) (xs : List ℕ) → length (slice_set lists b xs) ≡ length lists
lists_kept lists b xs = grind (arith, common_steps)

row_kept : (rs : List Row) (b : ℕ) (r : Row) → length (slice_set rs b r) ≡ length rs
row_kept rs b r = grind (arith, common_steps)

row_more : (rs : List Row) (r : Row) → length (rs ++ r ∷ []) ≡ length rs + 1
row_more rs r = grind (arith, common_steps)

-- a live branch is marked or rolled back
pub lists_with : Laws → (rs : List Row) (some : Ballots) (d : ℕ) (s : State) → is_live_branch rs d ≡ true → s ≢ Committed → is_live_branch (with_state rs d s) 0 ≡ true
    → IsSoundLists rs some → IsSoundLists (with_state rs d s) some
lists_with law rs some d s live n top h = record {
  tree = law.stands rs h.tree d s;
  top = top;
  listed = λ b. all_map (Listed rs b) (Listed (with_state rs d s) b) (λ r u. back_up law rs d s live b r.branch u) (participants b some) (h.listed b);
  highest = λ b. all_map (Highest rs b) (Highest (with_state rs d s) b)
      (λ r high c u. back_up law rs d s live b c (high c (back_down law rs d s live n c r.branch u))) (participants b some) (h.highest b);
  numbers = h.numbers;
  room = h.room;
  few = let many = row_kept rs d (record { parent = parent rs d; state = s }) in let few = h.few in omega (arith, many, few);
}

-- a live branch is committed into its parent, above which nothing is committed
still_highest : Laws → (rs : List Row) (b p c : ℕ) → is_live_branch rs b ≡ true → parent rs b ≡ Some p → c ≢ b → (r : Registration) → Highest rs c r → Highest (ended rs b true) c r
still_highest law rs b p c live is other r high x u = go (split law rs b p is x r.branch u)
  where
    go : IsUpTo rs x r.branch ⊎ (IsUpTo rs b r.branch × IsUpTo (ended rs b true) x p) → IsUpTo (ended rs b true) c x
    go (inl v) = back_up law rs b Committed live c x (high x v)
    go (inr v) = absurd (other (sym (up_open rs c b (live_open rs b live) (high b v.0))))

handed_highest : Laws → (rs : List Row) (b p : ℕ) → is_live_branch rs b ≡ true → parent rs b ≡ Some p → ((x : ℕ) → IsUpTo (ended rs b true) x p → p ≡ x)
    → (r : Registration) → Highest rs b r → Highest (ended rs b true) p r
handed_highest law rs b p live is none r high x u = go (split law rs b p is x r.branch u)
  where
    go : IsUpTo rs x r.branch ⊎ (IsUpTo rs b r.branch × IsUpTo (ended rs b true) x p) → IsUpTo (ended rs b true) p x
    go (inl v) = up_joined (ended rs b true) p b x (up_here law rs b p live is) (back_up law rs b Committed live b x (high x v))
    go (inr v) = subst (λ (y : ℕ). IsUpTo (ended rs b true) p y) (none x v.1) same

pub lists_committed : Laws → (rs : List Row) (some : Ballots) (b p : ℕ) → is_live_branch rs b ≡ true → parent rs b ≡ Some p → p ≢ b
    → ((x : ℕ) → IsUpTo (ended rs b true) x p → p ≡ x) → is_live_branch (ended rs b true) 0 ≡ true
    → IsSoundLists rs some → IsSoundLists (ended rs b true) (adopted b p some)
lists_committed law rs some b p live is other none top h =
    let more : List Row = ended rs b true in
    record {
      tree = law.stands rs h.tree b Committed;
      top = top;
      listed = λ c. adopted_cases (AllByRecursion (Listed more c)) some b p c
          (λ e. rw e (all_joined (Listed more p) (participants p some) (participants b some)
          (all_map (Listed rs p) (Listed more p) (λ r u. back_up law rs b Committed live p r.branch u) (participants p some) (h.listed p))
          (all_map (Listed rs b) (Listed more p) (λ r u. up_joined more p b r.branch (up_here law rs b p live is) (back_up law rs b Committed live b r.branch u)) (participants b some) (h.listed b))))
          (λ o n. all_map (Listed rs c) (Listed more c) (λ r u. back_up law rs b Committed live c r.branch u) (participants c some) (h.listed c)) tt;
      highest = λ c. adopted_cases (AllByRecursion (Highest more c)) some b p c
          (λ e. rw e (all_joined (Highest more p) (participants p some) (participants b some)
          (all_map (Highest rs p) (Highest more p) (still_highest law rs b p p live is other) (participants p some) (h.highest p))
          (all_map (Highest rs b) (Highest more p) (handed_highest law rs b p live is none) (participants b some) (h.highest b))))
          (λ o n. all_map (Highest rs c) (Highest more c) (still_highest law rs b p c live is n) (participants c some) (h.highest c)) tt;
      numbers = numbers_adopted some b p h.numbers;
      room = lists_kept (slice_set some.lists b []) p (list_at some.lists p ++ list_at some.lists b) ∙ lists_kept some.lists b [] ∙ h.room;
      few = let many = row_kept rs b (record { parent = parent rs b; state = Committed }) in let few = h.few in omega (arith, many, few);
    }

pub lists_created : Laws → (rs : List Row) (some : Ballots) (b : ℕ) → b < length rs → length rs < list_count → IsSoundLists rs some → IsSoundLists (created rs b) some
lists_created law rs some b within small h = record {
  tree = (law.grow rs h.tree b within).with_a_child;
  top = grown_live rs b 0 h.top;
  listed = λ c. all_map (Listed rs c) (Listed (created rs b) c) (λ r u. grown_up rs b c r.branch u) (participants c some) (h.listed c);
  highest = λ c. all_map (Highest rs c) (Highest (created rs b) c)
      (λ r high x u. grown_up rs b c x (high x (grown_down rs b x r.branch u))) (participants c some) (h.highest c);
  numbers = h.numbers;
  room = h.room;
  few = let many = row_more rs (record { parent = Some b; state = Active }) in omega (arith, many, small);
}

pub lists_registered : (rs : List Row) (some : Ballots) (b : ℕ) (to : List ℕ) (aware : Bool) → state rs b ≢ Some Committed → IsSoundLists rs some → IsSoundLists rs (registered b to aware some)
lists_registered rs some b to aware n h = record {
  tree = h.tree;
  top = h.top;
  listed = λ c. registered_cases (AllByRecursion (Listed rs c)) some b to aware c h.numbers
      (λ e. rw e (all_joined (Listed rs b) (participants b some) (new_one b to aware some ∷ []) (h.listed b) (same, tt))) (λ o. h.listed c) tt;
  highest = λ c. registered_cases (AllByRecursion (Highest rs c)) some b to aware c h.numbers
      (λ e. rw e (all_joined (Highest rs b) (participants b some) (new_one b to aware some ∷ []) (h.highest b)
      ((λ x u. subst (λ (y : ℕ). IsUpTo rs b y) (up_open rs x b n u) same), tt))) (λ o. h.highest c) tt;
  numbers = numbers_registered some b to aware h.numbers;
  room = lists_kept some.lists b (list_at some.lists b ++ (length some.registrations + 1) ∷ []) ∙ h.room;
  few = h.few;
}

pub lists_aware : (rs : List Row) (some : Ballots) (b : ℕ) (to : List ℕ) → IsSoundLists rs some → IsSoundLists rs (registered_aware b to some)
lists_aware rs some b to h = record {
  tree = h.tree;
  top = h.top;
  listed = λ c. rw (aware_same some b to c h.numbers) (h.listed c);
  highest = λ c. rw (aware_same some b to c h.numbers) (h.highest c);
  numbers = numbers_aware some b to h.numbers;
  room = h.room;
  few = h.few;
}

-- ---- completions

pub completion_rows : (stage : Stage) (rs more : List Row) (some : Ballots) (s : Standing) → (NoneLive rs → NoneLive more) → IsSoundCompletion stage rs some s → IsSoundCompletion stage more some s
completion_rows stage rs more some s m h = record { begun = h.begun; there = h.there; parties = h.parties; asking = λ a. m (h.asking a) }

pub completion_parties : (stage : Stage) (rs : List Row) (some later : Ballots) (s : Standing) → participants 0 later ≡ participants 0 some → IsSoundCompletion stage rs some s → IsSoundCompletion stage rs later s
completion_parties stage rs some later s e h = record { begun = h.begun; there = h.there; parties = rw e h.parties; asking = h.asking }

-- one that hasn't begun
pub completion_waiting : (stage next : Stage) (rs more : List Row) (some later : Ballots) (s : Standing) → is_before stage ≡ true → is_before next ≡ true
    → IsSoundCompletion stage rs some s → IsSoundCompletion next more later s
completion_waiting stage next rs more some later (Waiting room) e g h = record { begun = ((λ x. tt), (λ x. g)); there = tt; parties = tt; asking = λ a. absurd a }
completion_waiting stage next rs more some later (UnderWay c) e g h = absurd (h.begun.0 e)

-- one that is under way, in another stage
pub completion_staged : (stage next : Stage) (rs : List Row) (some : Ballots) (s : Standing) → is_before stage ≡ false → is_before next ≡ false
    → IsSoundCompletion stage rs some s → IsSoundCompletion next rs some s
completion_staged stage next rs some s e g h = record {
  begun = ((λ x. absurd (cc (sym g ∙ x))), (λ w. absurd (cc (sym e ∙ h.begun.1 w))));
  there = h.there;
  parties = h.parties;
  asking = h.asking;
}

-- ---- the participants of a completion that begins

same_indexes : (some : List Registration) → map (λ (p : Party). p.index) (map party_of some) ≡ map (λ (r : Registration). r.index) some
same_indexes [] = refl
same_indexes (r ∷ some) = ap (λ (xs : List ℕ). r.index ∷ xs) (same_indexes some)

same_references : (some : List Registration) → map (λ (p : Party). p.to) (map party_of some) ≡ map (λ (r : Registration). r.to) some
same_references [] = refl
same_references (r ∷ some) = ap (λ (xs : List (List ℕ)). r.to ∷ xs) (same_references some)

pub has_begun : (some : List Registration) → (map (λ (p : Party). p.index) (map party_of some) ≡ map (λ (r : Registration). r.index) some)
    × (map (λ (p : Party). p.to) (map party_of some) ≡ map (λ (r : Registration). r.to) some)
has_begun some = (same_indexes some, same_references some)
