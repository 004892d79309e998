-- What is known of families, outcomes and nodes once a subtransaction is made and has its name.
use Rattle.std.proofs.Common.{◌≡◌, ◌⊎◌, ◌↔◌, inl, inr, ℕ, zero, suc, ◌+◌, ◌<◌, Bool, true, false, is_some, IsTrue, List, [], ◌∷◌, ◌++◌, length, slice_get, Contains, Option, Some, None, refl, sym, ap, subst, ◌∙◌, arith}
use Rattle.std.specs.List.{AllByRecursion}
use Rattle.std.specs.Option.{option_and_then}
use Rattle.ior_refs.specs.declared.key.ObjectKey.{ObjectKey}
use Rattle.ots_model.specs.Safe.{Stands, IsRegistered}
use Rattle.ots_model.specs.declared.line.Line.{Line}
use Rattle.ots_model.specs.declared.line.Line.TheVariants as lines
use Rattle.ots_model.specs.declared.service.RetryKey.{RetryKey}
use Rattle.ots_model.specs.Numbered.{Outcome}
use Rattle.ots_model.specs.declared.completion.Outcome.TheVariants as outcomes
use Rattle.txn_tree.specs.Calls.{created}
use Rattle.txn_tree.specs.Rows.{IsParent, parent, state}
use Rattle.txn_tree.specs.declared.row.Row.{Row}
use Rattle.txn_tree.specs.declared.row.State.TheVariants as rows
use Rattle.resource_votes.specs.Ballots.{Ballots, participants}
use Rattle.resource_votes.specs.declared.registration.Registration.{Registration}
use Rattle.two_phase.specs.Stages as stages
use Rattle.two_phase.specs.Stages.{Standing}
use Rattle.decision_journal.specs.declared.record.JournalRecord.{JournalRecord}
use Rattle.coordinator.specs.declared.said.Entry.{Entry}
use Rattle.coordinator.specs.Family.{Call, Duty, Family, call_at}
use Rattle.coordinator.specs.Names.{coordinator_kind}
use Rattle.coordinator.specs.Node.{Node, family_in, is_of}
use Rattle.family_laws.specs.LawsOfTelling.{IsVoted}
use Rattle.family_laws.specs.Sound.{IsSoundFamily}
use Rattle.nodes_world.specs.declared.thing.Thing.{Thing}
use Rattle.nodes_world.specs.declared.thing.Thing.TheVariants as things
use Rattle.nodes_world.specs.Agreement.{IsTransaction, has_record, is_decision_of, records_at}
use Rattle.nodes_world.specs.AgreementInside.{Known, FamiliesAreKnown, FamilyIsKnown, HasMessage, IsBranch, IsListed, OutcomeIsTold, ended_state, IsNotBefore, AreFew}
use Rattle.nodes_world.specs.Objects.{place_of}
use Rattle.nodes_world.specs.Told as tell
use Rattle.nodes_world.specs.Told.{Told}
use Rattle.nodes_world.specs.World.{World, NamedKey, Seat, OfNode, family_at, referred, thing}
use Rattle.nodes_world.proofs.KnownLines.{lines_of}
use Rattle.nodes_world.proofs.KnownFamilies.{all_at, is_own, parent_within, same_of_branch, same_parts}
use Rattle.nodes_world.proofs.BranchNames.{one_branch}
use Rattle.nodes_world.proofs.RulesKeep.{registered_of}
use Rattle.nodes_world.proofs.SubMade as made
use Rattle.nodes_world.proofs.NumberedWords.{IsNumberedAs}

-- ---- one more row

last_parent : (rs : List Row) (p : ℕ) → parent (created rs p) (length rs) ≡ Some p
last_parent [] p = refl
last_parent (r ∷ rs) p = rest rs
  where
    rest : (xs : List Row) → option_and_then (λ (x : Row). x.parent) (slice_get (created xs p) (length xs)) ≡ Some p
    rest [] = refl
    rest (x ∷ xs) = rest xs

earlier_parent : (rs : List Row) (p b : ℕ) → b < length rs → parent (created rs p) b ≡ parent rs b
earlier_parent [] p b less = absurd (omega (arith, less))
earlier_parent (r ∷ rs) p zero less = refl
earlier_parent (r ∷ rs) p (suc b) less = other rs b (omega (arith, less))
  where
    other : (xs : List Row) (i : ℕ) → i < length xs → option_and_then (λ (x : Row). x.parent) (slice_get (created xs p) i) ≡ option_and_then (λ (x : Row). x.parent) (slice_get xs i)
    other [] i less = absurd (omega (arith, less))
    other (x ∷ xs) zero less = refl
    other (x ∷ xs) (suc i) less = other xs i (omega (arith, less))

last_state : (rs : List Row) (p : ℕ) → state (created rs p) (length rs) ≡ Some rows.Active
last_state [] p = refl
last_state (r ∷ rs) p = last_state rs p

earlier_state : (rs : List Row) (p b : ℕ) → b < length rs → state (created rs p) b ≡ state rs b
earlier_state [] p b less = absurd (omega (arith, less))
earlier_state (r ∷ rs) p zero less = refl
earlier_state (r ∷ rs) p (suc b) less = earlier_state rs p b (omega (arith, less))

one_longer : (rs : List Row) (p : ℕ) → length (created rs p) ≡ length rs + 1
one_longer [] p = refl
one_longer (r ∷ rs) p = let e = one_longer rs p in omega (arith, e)

not_ended : (how : Bool) → Some rows.Active ≡ Some (ended_state how) → ⊥
not_ended true e = cc
not_ended false e = cc

earlier_or_last : (b n : ℕ) → b < n + 1 → (b < n) ⊎ (b ≡ n)
earlier_or_last b n less = grind (arith, less)

module _ (w : World) (place : ℕ) (s : Seat) (n : Node) (f g : Family) (there : slice_get w.seats place ≡ Some s) (up : s.server ≡ OfNode (Some n))
    (same : g.key ≡ f.key) (slotted : family_in n.families f.key.slot ≡ Some f) (at_place : place_of f.key ≡ place) (told : List Told) (k : Known w told)
    (key : ObjectKey) (found : family_at w key ≡ Some f) (name : List ℕ) (free : thing w name ≡ None) (above : List ℕ) (p : ℕ) (branch : IsBranch w f above p)
    (own_key : ObjectKey) (kind : own_key.kind ≡ coordinator_kind) (of : IsTrue (is_of own_key f)) (last : own_key.index ≡ length f.rows) (inside : p < length f.rows)
    (serial : IsNumberedAs f g) (more : g.rows ≡ created f.rows p) (ballots : g.ballots ≡ f.ballots) (completion : g.completion ≡ f.completion)
    (sound : IsSoundFamily g) (dues : (b : ℕ) (c : Call) → call_at g b ≡ Some c → AllByRecursion (λ (d : Duty). Contains f.ballots.registrations d.resource) c.left × IsNotBefore c.leg)
    (came : (e : Entry) (r : RetryKey) → Contains g.entries e → e.event.key ≡ Some r → HasMessage w r) where
  abbrev v : World
  v = made.v w place s n f g there up same slotted at_place told k key found name free above p branch own_key kind of last inside serial

  abbrev later : List Told
  later = told ++ tell.Known (lines.Sub name above) ∷ []

  abbrev old : FamilyIsKnown w (lines_of told) f
  old = k.families key f found

  on : (l : Line) → Stands l (lines_of told) → Stands l (lines_of later)
  on l x = made.on w place s n f g there up same slotted at_place told k key found name free above p branch own_key kind of last inside serial l x

  back : (l : Line) → made.is_sub_line l ≡ false → Stands l (lines_of later) → Stands l (lines_of told)
  back l other x = made.back w place s n f g there up same slotted at_place told k key found name free above p branch own_key kind of last inside serial l other x

  sub_cases : (t higher : List ℕ) → Stands (lines.Sub t higher) (lines_of later) → ((t ≡ name) × (higher ≡ above)) ⊎ Stands (lines.Sub t higher) (lines_of told)
  sub_cases t higher x = made.sub_cases w place s n f g there up same slotted at_place told k key found name free above p branch own_key kind of last inside serial t higher x

  thing_on : (t : List ℕ) (x : Thing) → thing w t ≡ Some x → thing v t ≡ Some x
  thing_on t x is = made.thing_on w place s n f g there up same slotted at_place told k key found name free above p branch own_key kind of last inside serial t x is

  given : thing v name ≡ Some (things.Transaction own_key)
  given = made.given w place s n f g there up same slotted at_place told k key found name free above p branch own_key kind of last inside serial

  trans_cases : (t : List ℕ) (other : ObjectKey) → IsTransaction v t other → IsTransaction w t other ⊎ ((t ≡ name) × (own_key ≡ other))
  trans_cases t other is = made.trans_cases w place s n f g there up same slotted at_place told k key found name free above p branch own_key kind of last inside serial t other is

  unnamed : (t : List ℕ) (x : Thing) → thing w t ≡ Some x → t ≡ name → ⊥
  unnamed t x named is = made.unnamed w place s n f g there up same slotted at_place told k key found name free above p branch own_key kind of last inside serial t x named is

  refers : (to : List ℕ) → referred v to ≡ referred w to
  refers to = made.refers w place s n f g there up same slotted at_place told k key found name free above p branch own_key kind of last inside serial to

  has_same : (q : ℕ) (is_so : JournalRecord → Bool) → has_record v q is_so ≡ has_record w q is_so
  has_same q is_so = made.has w place s n f g there up same slotted at_place told k key found name free above p branch own_key kind of last inside serial q is_so

  records : (q : ℕ) → records_at v q ≡ records_at w q
  records q = made.records w place s n f g there up same slotted at_place told k key found name free above p branch own_key kind of last inside serial q

  families : (x : ObjectKey) (h : Family) → family_at v x ≡ Some h
      → ((h ≡ g) × IsTrue (is_of x g)) ⊎ ((family_at w x ≡ Some h) × (IsTrue (is_of h.key f) → ⊥))
  families x h is = made.families w place s n f g there up same slotted at_place told k key found name free above p branch own_key kind of last inside serial x h is

  -- ---- its branches

  of_now : (x : ObjectKey) → IsTrue (is_of x f) → IsTrue (is_of x g)
  of_now x is = subst (λ (y : ObjectKey). IsTrue (is_of x (record g { key = y }))) (sym same) is

  of_was : (x : ObjectKey) → IsTrue (is_of x g) → IsTrue (is_of x f)
  of_was x is = subst (λ (y : ObjectKey). IsTrue (is_of x (record g { key = y }))) same is

  branch_on : (t : List ℕ) (b : ℕ) → IsBranch w f t b → IsBranch v g t b
  branch_on t b (x, named, own, first) = (x, thing_on t (things.Transaction x) named, of_now x own, first)

  new_branch : IsBranch v g name (length f.rows)
  new_branch = (own_key, given, of_now own_key of, last)

  -- a branch then is the new one, or was there
  branch_cases : (t : List ℕ) (b : ℕ) → IsBranch v g t b → IsBranch w f t b ⊎ ((t ≡ name) × (b ≡ length f.rows))
  branch_cases t b (x, named, own, first) = elim (trans_cases t x named) [
    | inl was ↦ inl (x, was, of_was x own, first)
    | inr new ↦ inr (new.0, sym first ∙ ap (λ (y : ObjectKey). y.index) (sym new.1) ∙ last)
  ]

  as_many : length g.rows ≡ length f.rows + 1
  as_many = ap length more ∙ one_longer f.rows p

  branches_now : (b : ℕ) → b < length g.rows → (t : List ℕ) × IsBranch v g t b
  branches_now b less = elim (earlier_or_last b (length f.rows) (subst (λ (x : ℕ). b < x) as_many less)) [
    | inl early ↦ let at = old.branches b early in (at.0, branch_on at.0 b at.1)
    | inr is ↦ (name, subst (λ (x : ℕ). IsBranch v g name x) (sym is) new_branch)
  ]

  no_further_now : (t : List ℕ) (b : ℕ) → IsBranch v g t b → b < length g.rows
  no_further_now t b is = let many = as_many in elim (branch_cases t b is) [
    | inl was ↦ let less = old.no_further t b was in omega (arith, many, less)
    | inr new ↦ let at = new.1 in omega (arith, many, at)
  ]

  -- no line spoke of the new one
  no_sub : (t higher : List ℕ) → t ≡ name → Stands (lines.Sub t higher) (lines_of told) → ⊥
  no_sub t higher is x = let at = k.names.subs t higher x in unnamed t (things.Transaction at.0) at.2 is

  no_sub_of : (t higher : List ℕ) → higher ≡ name → Stands (lines.Sub t higher) (lines_of told) → ⊥
  no_sub_of t higher is x = let at = k.names.subs t higher x in unnamed higher (things.Transaction at.1) at.3 is

  no_end : (t : List ℕ) (how : Bool) → t ≡ name → Stands (lines.SubDone t how) (lines_of told) → ⊥
  no_end t how is x = let at = k.names.ended t how x in unnamed t (things.Transaction at.0) at.1 is

  no_registration : (r t : List ℕ) → t ≡ name → IsRegistered r t (lines_of told) → ⊥
  no_registration r t is x = let at = k.names.registered r t x in unnamed t (things.Transaction at.1) at.3 is

  same_name : (t u : List ℕ) (b : ℕ) → IsBranch w f t b → IsBranch w f u b → t ≡ u
  same_name t u b (x, named, own, first) (y, also, own_also, first_also) =
      let a = same_parts x.service x.life x.slot x.generation f.key.service f.key.life f.key.slot f.key.generation own in
      let d = same_parts y.service y.life y.slot y.generation f.key.service f.key.life f.key.slot f.key.generation own_also in
      k.names.keys t u (things.Transaction y)
      (named ∙ ap (λ (z : ObjectKey). Some (things.Transaction z)) (equal_keys x y (k.names.kinds t x named ∙ sym (k.names.kinds u y also)) (a.0 ∙ sym d.0)
      (a.1 ∙ sym d.1) (a.2 ∙ sym d.2) (a.3 ∙ sym d.3) (first ∙ sym first_also))) also
    where
      equal_keys : (x y : ObjectKey) → x.kind ≡ y.kind → x.service ≡ y.service → x.life ≡ y.life → x.slot ≡ y.slot → x.generation ≡ y.generation → x.index ≡ y.index → x ≡ y
      equal_keys x y one two three four five six =
          ap (λ (z : ℕ). record x { kind = z }) one
          ∙ ap (λ (z : ℕ). record x { kind = y.kind; service = z }) two
          ∙ ap (λ (z : ℕ). record x { kind = y.kind; service = y.service; life = z }) three
          ∙ ap (λ (z : ℕ). record x { kind = y.kind; service = y.service; life = y.life; slot = z }) four
          ∙ ap (λ (z : ℕ). record y { index = x.index; generation = z }) five
          ∙ ap (λ (z : ℕ). record y { index = z }) six

  parent_now : (b : ℕ) → b < length f.rows → parent g.rows b ≡ parent f.rows b
  parent_now b less = ap (λ (rs : List Row). parent rs b) more ∙ earlier_parent f.rows p b less

  parent_last : parent g.rows (length f.rows) ≡ Some p
  parent_last = ap (λ (rs : List Row). parent rs (length f.rows)) more ∙ last_parent f.rows p

  -- a parent was made before its child
  higher_before : (b q : ℕ) → parent f.rows b ≡ Some q → q < length f.rows
  higher_before b q is = by (parent f.rows b) is (old.sound.lists.tree.parents b (parent_within f.rows b q is))
    where
      within : b < length f.rows
      within = parent_within f.rows b q is

      by : (o : Option ℕ) → o ≡ Some q → IsParent b o → q < length f.rows
      by (Some x) same first = let l = within in let e = inner same in omega (arith, l, e, first)
        where
          inner : {a b : ℕ} → Some a ≡ Some b → a ≡ b
          inner e = cc
      by None same first = absurd cc

  inner_number : (a b : ℕ) → Some a ≡ Some b → a ≡ b
  inner_number a b e = cc

  parents_now : (t higher : List ℕ) (b q : ℕ) → IsBranch v g t b → IsBranch v g higher q → Stands (lines.Sub t higher) (lines_of later) ↔ (parent g.rows b ≡ Some q)
  parents_now t higher b q one two = by (branch_cases t b one) (branch_cases higher q two)
    where
      by : IsBranch w f t b ⊎ ((t ≡ name) × (b ≡ length f.rows)) → IsBranch w f higher q ⊎ ((higher ≡ name) × (q ≡ length f.rows))
          → Stands (lines.Sub t higher) (lines_of later) ↔ (parent g.rows b ≡ Some q)
      by (inl was) (inl up_was) =
          let before = old.parents t higher b q was up_was in
          let kept = parent_now b (old.no_further t b was) in (
            λ x. elim (sub_cases t higher x) [
              | inl new ↦ absurd (unnamed t (things.Transaction was.0) was.1 new.0)
              | inr stood ↦ kept ∙ before.0 stood
            ],
            λ e. on _ (before.1 (sym kept ∙ e)),
          )
      by (inl was) (inr new) =
          let kept = parent_now b (old.no_further t b was) in (
            λ x. elim (sub_cases t higher x) [
              | inl now ↦ absurd (unnamed t (things.Transaction was.0) was.1 now.0)
              | inr stood ↦ absurd (no_sub_of t higher new.0 stood)
            ],
            λ e. let less = higher_before b q (sym kept ∙ e) in let is = new.1 in absurd (omega (arith, less, is)),
          )
      by (inr new) (inl up_was) =
          let at : parent g.rows b ≡ Some p = ap (parent g.rows) new.1 ∙ parent_last in (
            λ x. elim (sub_cases t higher x) [
              | inl now ↦ at ∙ ap (λ (y : ℕ). Some y)
                  (one_branch w told k f (record { key = f.key; registrations = []; synchronizations = [] }) refl above p q branch
                  (subst (λ (y : List ℕ). IsBranch w f y q) now.1 up_was))
              | inr stood ↦ absurd (no_sub t higher new.0 stood)
            ],
            λ e.
                let is : p ≡ q = inner_number p q (sym at ∙ e) in
                let named : higher ≡ above = same_name higher above q up_was (subst (λ (y : ℕ). IsBranch w f above y) is branch) in
                subst (λ (y : List ℕ). Stands (lines.Sub t y) (lines_of later)) (sym named)
                (subst (λ (y : List ℕ). Stands (lines.Sub y above) (lines_of later)) (sym new.0)
                (made.stands_now w place s n f g there up same slotted at_place told k key found name free above p branch own_key kind of last inside serial)),
          )
      by (inr new) (inr also) =
          let at : parent g.rows b ≡ Some p = ap (parent g.rows) new.1 ∙ parent_last in (
            λ x. elim (sub_cases t higher x) [
              | inl now ↦ absurd (unnamed above (things.Transaction branch.0) branch.1 (sym now.1 ∙ also.0))
              | inr stood ↦ absurd (no_sub t higher new.0 stood)
            ],
            λ e. let is = inner_number p q (sym at ∙ e) in let end = also.1 in absurd (omega (arith, inside, is, end)),
          )

  ends_now : (t : List ℕ) (b : ℕ) (how : Bool) → IsBranch v g t b → 0 < b → Stands (lines.SubDone t how) (lines_of later) ↔ (state g.rows b ≡ Some (ended_state how))
  ends_now t b how one below = by (branch_cases t b one)
    where
      by : IsBranch w f t b ⊎ ((t ≡ name) × (b ≡ length f.rows)) → Stands (lines.SubDone t how) (lines_of later) ↔ (state g.rows b ≡ Some (ended_state how))
      by (inl was) =
          let before = old.ends t b how was below in
          let kept : state g.rows b ≡ state f.rows b = ap (λ (rs : List Row). state rs b) more ∙ earlier_state f.rows p b (old.no_further t b was) in
          (λ x. kept ∙ before.0 (back _ refl x), λ e. on _ (before.1 (sym kept ∙ e)))
      by (inr new) =
          let at : state g.rows b ≡ Some rows.Active = ap (state g.rows) new.1 ∙ ap (λ (rs : List Row). state rs (length f.rows)) more ∙ last_state f.rows p in
          (λ x. absurd (no_end t how new.0 (back _ refl x)), λ e. absurd (not_ended how (sym at ∙ e)))

  -- ---- who is registered

  was_in : (r : Registration) → Contains g.ballots.registrations r → Contains f.ballots.registrations r
  was_in r among = subst (λ (x : Ballots). Contains x.registrations r) ballots among

  registrations_now : (x t : List ℕ) (b : ℕ) → IsBranch v g t b → IsRegistered x t (lines_of later) ↔ IsListed v g x b
  registrations_now x t b one = by (branch_cases t b one)
    where
      by : IsBranch w f t b ⊎ ((t ≡ name) × (b ≡ length f.rows)) → IsRegistered x t (lines_of later) ↔ IsListed v g x b
      by (inl was) =
          let before = old.registrations x t b was in (
            λ y.
                let l = before.0 (y.0, back _ refl y.1) in
                (l.0, l.1, l.2, subst (λ (z : Ballots). Contains (participants l.0 z) l.1) (sym ballots) l.3, l.4, refers l.1.to ∙ l.5, l.6),
            λ l.
                let y = before.1 (l.0, l.1, l.2, subst (λ (z : Ballots). Contains (participants l.0 z) l.1) ballots l.3, l.4, sym (refers l.1.to) ∙ l.5, l.6) in
                (y.0, on _ y.1),
          )
      by (inr new) = (
        λ y. absurd (no_registration x t new.0 (y.0, back _ refl y.1)),
        λ l.
            let less = old.within l.1 (listed_in l.0 l.1 (subst (λ (z : Ballots). Contains (participants l.0 z) l.1) ballots l.3)) in
            let at = l.4 in
            let end = new.1 in
            absurd (omega (arith, less, at, end)),
      )
        where
          listed_in : (d : ℕ) (r : Registration) → Contains (participants d f.ballots) r → Contains f.ballots.registrations r
          listed_in d r among = all_at (Contains f.ballots.registrations) (participants d f.ballots) r (registered_of f d) among

  own_now : (r : Registration) (object : NamedKey) (t : List ℕ) → Contains g.ballots.registrations r → referred v r.to ≡ Some object
      → IsRegistered object.name t (lines_of later) → IsBranch v g t r.branch
  own_now r object t among leads registered =
      branch_on t r.branch (old.own r object t (was_in r among) (sym (refers r.to) ∙ leads) (registered.0, back _ refl registered.1))

  -- ---- the family

  outcome_on : (o : Option Outcome) (t : List ℕ) → OutcomeIsTold o t (lines_of told) → OutcomeIsTold o t (lines_of later)
  outcome_on None t is = λ x. is (back _ refl x)
  outcome_on (Some (outcomes.Commit basis)) t is = on _ is
  outcome_on (Some (outcomes.Rollback reason)) t is = λ x. is (back _ refl x)
  outcome_on (Some outcomes.Unknown) t is = λ x. is (back _ refl x)

  family_now : FamilyIsKnown v (lines_of later) g
  family_now = record {
    sound = sound;
    name = old.name;
    of_name = thing_on old.name (things.Transaction g.key) (subst (λ (x : ObjectKey). IsTransaction w old.name x) (sym same) old.of_name);
    top = ap (λ (x : ObjectKey). x.index) same ∙ old.top;
    branches = branches_now;
    no_further = no_further_now;
    parents = parents_now;
    ends = ends_now;
    registrations = registrations_now;
    own = own_now;
    numbered = λ i r at. old.numbered i r (subst (λ (x : Ballots). slice_get x.registrations i ≡ Some r) ballots at);
    unsynchronized = ap (λ (x : Ballots). x.synchronizations) ballots ∙ old.unsynchronized;
    named = λ r among. ap is_some (refers r.to) ∙ old.named r (was_in r among);
    apart = λ r other one two is. old.apart r other (was_in r one) (was_in other two) is;
    within = λ r among. let less = old.within r (was_in r among) in let many = as_many in omega (arith, less, many);
    came = came;
    dues = λ b c is. subst (λ (x : Ballots). AllByRecursion (λ (d : Duty). Contains x.registrations d.resource) c.left) (sym ballots) (dues b c is).0;
    legs = λ b c is. (dues b c is).1;
    ready = serial.ready old.ready;
    few = subst AreFew (sym ballots) old.few;
    settled = ap stages.wants_decision completion ∙ old.settled;
    votes = λ number vote r object among at leads.
        let was = old.votes number vote r object (was_in r among) at (sym (refers r.to) ∙ leads) in (
          λ e. on _ (was.0 (subst (λ (x : Standing). IsVoted x number vote) completion e)),
          λ x. subst (λ (y : Standing). IsVoted y number vote) (sym completion) (was.1 (back _ refl x)),
        );
    outcome = subst (λ (x : Standing). OutcomeIsTold (stages.outcome x) old.name (lines_of later)) (sym completion) (outcome_on (stages.outcome f.completion) old.name old.outcome);
    recorded =
        let kept = has_same (place_of g.key) (is_decision_of g.key) ∙ ap (λ (x : ObjectKey). has_record w (place_of x) (is_decision_of x)) same in (
          λ y. ap (λ (x : Standing). stages.outcome x) completion ∙ old.recorded.0 (sym kept ∙ y),
          λ e. kept ∙ old.recorded.1 (sym (ap (λ (x : Standing). stages.outcome x) completion) ∙ e),
        );
  }

  -- another one
  other_back : (h : Family) (x : ObjectKey) → family_at w x ≡ Some h → (IsTrue (is_of h.key f) → ⊥) → (t : List ℕ) (b : ℕ) → IsBranch v h t b → IsBranch w h t b
  other_back h x at other t b (y, named, own, first) = elim (trans_cases t y named) [
    | inl was ↦ (y, was, own, first)
    | inr new ↦
        let one : f ≡ h = same_of_branch w key x own_key f h found at of (subst (λ (z : ObjectKey). IsTrue (is_of z h)) (sym new.1) own) in
        absurd (other (subst (λ (z : Family). IsTrue (is_of z.key f)) one (is_own f)))
  ]

  other_family : (h : Family) (x : ObjectKey) → family_at w x ≡ Some h → (IsTrue (is_of h.key f) → ⊥) → FamilyIsKnown v (lines_of later) h
  other_family h x at other =
      let was = k.families x h at in
      record {
        sound = was.sound;
        name = was.name;
        of_name = thing_on was.name (things.Transaction h.key) was.of_name;
        top = was.top;
        branches = λ b less. let one = was.branches b less in (one.0, (one.1.0, thing_on one.0 (things.Transaction one.1.0) one.1.1, one.1.2, one.1.3));
        no_further = λ t b one. was.no_further t b (other_back h x at other t b one);
        parents = λ t higher b q one two.
            let own_one = other_back h x at other t b one in
            let before = was.parents t higher b q own_one (other_back h x at other higher q two) in (
              λ y. elim (sub_cases t higher y) [
                | inl new ↦ absurd (unnamed t (things.Transaction own_one.0) own_one.1 new.0)
                | inr stood ↦ before.0 stood
              ],
              λ e. on _ (before.1 e),
            );
        ends = λ t b how one below.
            let before = was.ends t b how (other_back h x at other t b one) below in
            (λ y. before.0 (back _ refl y), λ e. on _ (before.1 e));
        registrations = λ r t b one.
            let before = was.registrations r t b (other_back h x at other t b one) in (
              λ y. let l = before.0 (y.0, back _ refl y.1) in (l.0, l.1, l.2, l.3, l.4, refers l.1.to ∙ l.5, l.6),
              λ l. let y = before.1 (l.0, l.1, l.2, l.3, l.4, sym (refers l.1.to) ∙ l.5, l.6) in (y.0, on _ y.1),
            );
        own = λ r object t among leads registered.
            let one = was.own r object t among (sym (refers r.to) ∙ leads) (registered.0, back _ refl registered.1) in
            (one.0, thing_on t (things.Transaction one.0) one.1, one.2, one.3);
        numbered = was.numbered;
        unsynchronized = was.unsynchronized;
        named = λ r among. ap is_some (refers r.to) ∙ was.named r among;
        apart = was.apart;
        within = was.within;
        came = was.came;
        dues = was.dues;
        legs = was.legs;
        ready = was.ready;
        few = was.few;
        settled = was.settled;
        votes = λ number vote r object among is leads.
            let before = was.votes number vote r object among is (sym (refers r.to) ∙ leads) in
            (λ e. on _ (before.0 e), λ y. before.1 (back _ refl y));
        outcome = outcome_on (stages.outcome h.completion) was.name was.outcome;
        recorded = let kept = has_same (place_of h.key) (is_decision_of h.key) in (λ y. was.recorded.0 (sym kept ∙ y), λ e. kept ∙ was.recorded.1 e);
      }

  pub families_now : FamiliesAreKnown v (lines_of later)
  families_now x h at = elim (families x h at) [
    | inl this ↦ subst (FamilyIsKnown v (lines_of later)) (sym this.0) family_now
    | inr that ↦ other_family h x that.0 that.1
  ]
