-- The lines of a step of a family that is there: which of them stand, and that each subtransaction ends once.
use Rattle.std.proofs.Common.{◌≡◌, ◌⊎◌, ◌↔◌, inl, inr, ℕ, zero, suc, ◌<◌, Bool, true, IsTrue, List, [], ◌∷◌, ◌++◌, append-nil, Contains, Option, Some, None, refl, sym, ap, subst, ◌∙◌, arith}
use Rattle.std.proofs.lemmas.List.Elements.{Contains-append_cases, Contains-append_left, Contains-append_right, filter_map-append}
use Rattle.ior_refs.specs.declared.key.ObjectKey.{ObjectKey}
use Rattle.ots_model.specs.Safe as safe
use Rattle.ots_model.specs.Safe.{Stands, IsFamily, IsJoined, IsOf, TakesPart}
use Rattle.ots_model.specs.declared.line.Line.{Line}
use Rattle.ots_model.specs.declared.line.Line.TheVariants as lines
use Rattle.txn_tree.specs.Rows.{is_live_branch, state}
use Rattle.txn_tree.specs.declared.row.Row.{Row}
use Rattle.coordinator.specs.declared.effect.Effect.{Effect}
use Rattle.coordinator.specs.declared.effect.Effect.TheVariants as effects
use Rattle.coordinator.specs.declared.said.Entry.{Entry}
use Rattle.coordinator.specs.declared.said.Finished.{Finished}
use Rattle.coordinator.specs.declared.said.Said.{Said}
use Rattle.coordinator.specs.Family.{Family}
use Rattle.family_laws.specs.LawsOfSteps.{EndInTurn}
use Rattle.family_laws.specs.LawsOfTelling.{rows_told}
use Rattle.nodes_world.specs.declared.thing.Thing.TheVariants as things
use Rattle.nodes_world.specs.Agreement.{IsTransaction, SubtransactionsEndOnce}
use Rattle.nodes_world.specs.AgreementInside.{Known, IsBranch, ended_state}
use Rattle.nodes_world.specs.Happenings.{Cast, all_effect_lines, all_finished_lines, answer_lines, branch_name, call_number, effect_lines, finished_lines, naming}
use Rattle.nodes_world.specs.Told as tell
use Rattle.nodes_world.specs.Told.{Told, known, known_in}
use Rattle.nodes_world.specs.World.{World, family_at}
use Rattle.nodes_world.proofs.KnownLines.{among_back, among_turned, in_front, joined_of, lines_of, of_key}
use Rattle.nodes_world.proofs.CanGo.{first_key}
use Rattle.nodes_world.proofs.EffectsTold.{TellsEffects, branch_named}
use Rattle.nodes_world.proofs.EffectsSay.{Says, effects_say, end_told, stands_told, told_stands}
use Rattle.nodes_world.proofs.BranchNames.{named_branch, one_branch}
use Rattle.nodes_world.proofs.RowsEnd.{ended_not_live, ended_stays, ended_told, first_or_later, told_ended, was_live}

-- ---- a line in two lists

split_cases : (xs ys before behind : List Line) (line : Line) → xs ++ ys ≡ before ++ (line ∷ behind)
    → ((more : List Line) × (xs ≡ before ++ (line ∷ more))) ⊎ ((middle : List Line) × (before ≡ xs ++ middle) × (ys ≡ middle ++ (line ∷ behind)))
split_cases [] ys before behind line e = inr (before, refl, e)
split_cases (x ∷ xs) ys [] behind line e = inl (xs, ap (λ (y : Line). y ∷ xs) (head_of e))
  where
    head_of : x ∷ (xs ++ ys) ≡ line ∷ behind → x ≡ line
    head_of e = cc
split_cases (x ∷ xs) ys (b ∷ before) behind line e = elim (split_cases xs ys before behind line (tail_of e)) [
  | inl first ↦ inl (first.0, ap (λ (y : Line). y ∷ xs) (head_of e) ∙ ap (λ (ls : List Line). b ∷ ls) first.1)
  | inr last ↦ inr (last.0, ap (λ (y : Line). y ∷ before) (sym (head_of e)) ∙ ap (λ (ls : List Line). x ∷ ls) last.1, last.2)
]
  where
    head_of : x ∷ (xs ++ ys) ≡ b ∷ (before ++ (line ∷ behind)) → x ≡ b
    head_of e = cc

    tail_of : x ∷ (xs ++ ys) ≡ b ∷ (before ++ (line ∷ behind)) → xs ++ ys ≡ before ++ (line ∷ behind)
    tail_of e = cc

stands_cases : (xs ys : List Line) (line : Line) → Stands line (xs ++ ys) → Stands line xs ⊎ Stands line ys
stands_cases [] ys line s = inr s
stands_cases (x ∷ xs) ys line (inl e) = inl (inl e)
stands_cases (x ∷ xs) ys line (inr s) = elim (stands_cases xs ys line s) [
  | inl first ↦ inl (inr first)
  | inr last ↦ inr last
]

stands_behind : (xs ys : List Line) (line : Line) → Stands line ys → Stands line (xs ++ ys)
stands_behind [] ys line s = s
stands_behind (x ∷ xs) ys line s = inr (stands_behind xs ys line s)

stands_here : (xs : List Line) (line : Line) (ys : List Line) → Stands line (xs ++ (line ∷ ys))
stands_here xs line ys = stands_behind xs (line ∷ ys) line (inl refl)

-- answers are none of the lines of the model
answer_unknown : (answer : Said) (o : Option ℕ) → known (answer_lines answer o) ≡ []
answer_unknown answer (Some message) = refl
answer_unknown answer None = refl

pub finished_unknown : (entries : List Entry) (done : List Finished) → known (all_finished_lines entries done) ≡ []
finished_unknown entries [] = refl
finished_unknown entries (a ∷ others) =
    filter_map-append known_in (finished_lines entries a) (all_finished_lines entries others)
    ∙ ap (λ (ls : List Line). ls ++ known (all_finished_lines entries others)) (answer_unknown a.said (call_number entries a.position))
    ∙ finished_unknown entries others

-- nor do they tell of a rollback
abbrev pub IsAnswer : Told → Type 0
IsAnswer (tell.Answered message answer) = Unit {0}
IsAnswer _ = ⊥

answer_is : (answer : Said) (o : Option ℕ) (t : Told) → Contains (answer_lines answer o) t → IsAnswer t
answer_is answer (Some message) t c = elim (first_or_later (tell.Answered message answer) t [] c) [
  | inl here ↦ subst IsAnswer here tt
  | inr later ↦ let l = later.1 in absurd (omega (arith, l))
]
answer_is answer None t c = let l = c.1 in absurd (omega (arith, l))

pub finished_is : (entries : List Entry) (done : List Finished) (t : Told) → Contains (all_finished_lines entries done) t → IsAnswer t
finished_is entries [] t c = let l = c.1 in absurd (omega (arith, l))
finished_is entries (a ∷ others) t c = elim (Contains-append_cases (finished_lines entries a) (all_finished_lines entries others) t c) [
  | inl first ↦ answer_is a.said (call_number entries a.position) t first
  | inr later ↦ finished_is entries others t later
]

module _ (w : World) (told : List Told) (k : Known w told) (key : ObjectKey) (f : Family) (there : family_at w key ≡ Some f) (c : Cast) (own : c.key ≡ f.key)
    (early : Bool) (some : List Effect) (turn : EndInTurn early some f.rows) (entries : List Entry) (done : List Finished) where
  abbrev pub new_lines : List Told
  new_lines = all_effect_lines w c some ++ all_finished_lines entries done

  -- ---- which lines stand

  pub told_cases : (t : Told) → Contains (told ++ new_lines) t → Contains told t ⊎ (((e : Effect) × Contains some e × Says w c e t) ⊎ IsAnswer t)
  told_cases t at = elim (Contains-append_cases told new_lines t at) [
    | inl was ↦ inl was
    | inr new ↦ elim (Contains-append_cases (all_effect_lines w c some) (all_finished_lines entries done) t new) [
      | inl effect ↦ inr (inl (effects_say w c some t effect))
      | inr answer ↦ inr (inr (finished_is entries done t answer))
    ]
  ]

  pub line_cases : (line : Line) → Stands line (known (told ++ new_lines))
      → Stands line (known told) ⊎ ((e : Effect) × Contains some e × Says w c e (tell.Known line))
  line_cases line s = elim (told_cases (tell.Known line) (stands_told (told ++ new_lines) line s)) [
    | inl was ↦ inl (told_stands told line was)
    | inr (inl new) ↦ inr new
    | inr (inr answer) ↦ absurd answer
  ]

  pub new_stands : (line : Line) → Contains (all_effect_lines w c some) (tell.Known line) → Stands line (known (told ++ new_lines))
  new_stands line at = told_stands (told ++ new_lines) line
      (Contains-append_right told new_lines _ (Contains-append_left (all_effect_lines w c some) (all_finished_lines entries done) _ at))

  -- ---- the ends of subtransactions

  pub end_cases : (t : List ℕ) (b : ℕ) (how : Bool) → IsBranch w f t b → Stands (lines.SubDone t how) (known (told ++ new_lines))
      → Stands (lines.SubDone t how) (known told) ⊎ Contains some (effects.SubtransactionEnded b how)
  end_cases t b how branch s = elim (line_cases (lines.SubDone t how) s) [
    | inl was ↦ inl was
    | inr (e, among, (d, is, named)) ↦
        inr (subst (λ (x : Effect). Contains some x) (is ∙ ap (λ (y : ℕ). effects.SubtransactionEnded y how)
        (one_branch w told k f c own t d b (branch_named w told k key f there c own d t named) branch)) among)
  ]

  pub ends_now : (t : List ℕ) (b : ℕ) (how : Bool) → IsBranch w f t b → 0 < b
      → Stands (lines.SubDone t how) (lines_of (told ++ new_lines)) ↔ (state (rows_told some f.rows) b ≡ Some (ended_state how))
  ends_now t b how branch below =
      let was = (k.families key f there).ends t b how branch below in (
        λ s. elim (end_cases t b how branch (among_back _ _ s)) [
          | inl old ↦ ended_stays early some f.rows b how turn (was.0 (among_turned _ _ old))
          | inr new ↦ told_ended early some f.rows b how turn new
        ],
        λ e. elim (ended_told early some f.rows b how turn e) [
          | inl old ↦ among_turned _ _ (subst (Stands (lines.SubDone t how)) (sym (filter_map-append known_in told new_lines))
              (in_front (known told) (known new_lines) _ (among_back _ _ (was.1 old))))
          | inr new ↦ among_turned _ _ (new_stands _ (end_told w c some b how t new (named_branch w told k f c own t b branch)))
        ],
      )

  -- where the row of the top-level transaction stays live, that isn't told to end
  pub not_top : IsTrue (is_live_branch (rows_told some f.rows) 0) → (b : ℕ) (how : Bool) → Contains some (effects.SubtransactionEnded b how) → 0 < b
  not_top live zero how among = absurd (ended_not_live (rows_told some f.rows) 0 how (told_ended early some f.rows 0 how turn among) live)
  not_top live (suc b) how among = omega arith

-- ---- none ends twice in a step

one_line : (o : Option (List ℕ)) (how : Bool) (before behind : List Line) (line other : Line)
    → known (naming (λ (name : List ℕ). tell.Known (lines.SubDone name how)) o) ≡ before ++ (line ∷ behind) → Stands other before → ⊥
one_line (Some name) how [] behind line other is s = s
one_line (Some name) how (b ∷ []) behind line other is s = cc
one_line (Some name) how (b ∷ d ∷ before) behind line other is s = cc
one_line None how [] behind line other is s = s
one_line None how (b ∷ before) behind line other is s = cc

effect_once : (w : World) (c : Cast) (e : Effect) (b : ℕ) (how : Bool) → e ≡ effects.SubtransactionEnded b how → (before behind : List Line) (line other : Line)
    → known (effect_lines w c e) ≡ before ++ (line ∷ behind) → Stands other before → ⊥
unfolding effect_lines
effect_once w c e b how is before behind line other splits s =
    one_line (branch_name w c b) how before behind line other (ap (λ (x : Effect). known (effect_lines w c x)) (sym is) ∙ splits) s

module _ (w : World) (told : List Told) (k : Known w told) (key : ObjectKey) (f : Family) (there : family_at w key ≡ Some f) (c : Cast) (own : c.key ≡ f.key) where
  -- of which end a line tells
  end_of : (some : List Effect) (t : List ℕ) (how : Bool) → Stands (lines.SubDone t how) (known (all_effect_lines w c some))
      → (b : ℕ) × Contains some (effects.SubtransactionEnded b how) × IsBranch w f t b
  end_of some t how s =
      let said = effects_say w c some (tell.Known (lines.SubDone t how)) (stands_told (all_effect_lines w c some) _ s) in
      let is = said.2 in
      (is.0, subst (λ (x : Effect). Contains some x) is.1 said.1, branch_named w told k key f there c own is.0 t is.2)

  effect_end : (e : Effect) (t : List ℕ) (how : Bool) → Stands (lines.SubDone t how) (known (effect_lines w c e))
      → (b : ℕ) × (e ≡ effects.SubtransactionEnded b how) × IsBranch w f t b
  effect_end e t how s =
      let at = end_of (e ∷ []) t how (subst (Stands (lines.SubDone t how)) (sym (filter_map-append known_in (effect_lines w c e) []))
      (in_front (known (effect_lines w c e)) [] _ s)) in
      (at.0, here at.0 (first_or_later e _ [] at.1), at.2)
    where
      here : (b : ℕ) → (e ≡ effects.SubtransactionEnded b how) ⊎ Contains [] (effects.SubtransactionEnded b how) → e ≡ effects.SubtransactionEnded b how
      here b (inl is) = is
      here b (inr later) = let l = later.1 in absurd (omega (arith, l))

  -- one that an effect has ended ends by no later one
  ended_once : (early : Bool) (e : Effect) (others : List Effect) (rs : List Row) (b : ℕ) (how again : Bool) → EndInTurn early (e ∷ others) rs
      → e ≡ effects.SubtransactionEnded b how → Contains others (effects.SubtransactionEnded b again) → ⊥
  ended_once early e others rs b how again turn is among =
      let turned = subst (λ (x : Effect). EndInTurn early (x ∷ others) rs) is turn in
      let ended_now = told_ended early (effects.SubtransactionEnded b how ∷ []) rs b how (first_turn turned) (0, omega arith, refl) in
      ended_not_live _ b how ended_now (was_live early others _ b again turned.1 among)
    where
      first_turn : EndInTurn early (effects.SubtransactionEnded b how ∷ others) rs → EndInTurn early (effects.SubtransactionEnded b how ∷ []) rs
      first_turn turned = (turned.0, tt)

  rest_turn : (early : Bool) (e : Effect) (others : List Effect) (rs : List Row) → EndInTurn early (e ∷ others) rs → (after : List Row) × EndInTurn early others after
  rest_turn early (effects.Voted g vote) others rs turn = (rs, turn)
  rest_turn early (effects.Decided fixed) others rs turn = (rs, turn)
  rest_turn early (effects.SubtransactionEnded b committed) others rs turn = (_, turn.1)
  rest_turn early (effects.Marked b) others rs turn = (_, turn.1)
  rest_turn early effects.Doubted others rs turn = (rs, turn)
  rest_turn early effects.Done others rs turn = (rs, turn)

  abbrev OnceIn : List Line → Type 0
  OnceIn new = (before behind : List Line) (t : List ℕ) (how earlier : Bool) → new ≡ before ++ (lines.SubDone t how ∷ behind)
      → Stands (lines.SubDone t earlier) before → ⊥

  new_once : (early : Bool) (some : List Effect) (rs : List Row) → EndInTurn early some rs → OnceIn (known (all_effect_lines w c some))
  new_once early [] rs turn [] behind t how earlier is s = s
  new_once early [] rs turn (b ∷ before) behind t how earlier is s = cc
  new_once early (e ∷ others) rs turn before behind t how earlier is s =
      elim (split_cases (known (effect_lines w c e)) (known (all_effect_lines w c others)) before behind (lines.SubDone t how)
      (sym (filter_map-append known_in (effect_lines w c e) (all_effect_lines w c others)) ∙ is)) [
        | inl first ↦
            let at = effect_end e t how (subst (Stands (lines.SubDone t how)) (sym first.1) (stands_here before (lines.SubDone t how) first.0)) in
            effect_once w c e at.0 how at.1 before first.0 (lines.SubDone t how) (lines.SubDone t earlier) first.1 s
        | inr (middle, front, last) ↦ by middle last (new_once early others rest.0 rest.1)
            (stands_cases (known (effect_lines w c e)) middle (lines.SubDone t earlier) (subst (Stands (lines.SubDone t earlier)) front s))
      ]
    where
      later_end : (middle : List Line) → known (all_effect_lines w c others) ≡ middle ++ (lines.SubDone t how ∷ behind) → Stands (lines.SubDone t how) (known (all_effect_lines w c others))
      later_end middle last = subst (Stands (lines.SubDone t how)) (sym last) (stands_here middle (lines.SubDone t how) behind)

      rest : (after : List Row) × EndInTurn early others after
      rest = rest_turn early e others rs turn

      by : (middle : List Line) → known (all_effect_lines w c others) ≡ middle ++ (lines.SubDone t how ∷ behind) → OnceIn (known (all_effect_lines w c others))
          → Stands (lines.SubDone t earlier) (known (effect_lines w c e)) ⊎ Stands (lines.SubDone t earlier) middle → ⊥
      by middle last later (inl first) =
          let one = effect_end e t earlier first in
          let other = end_of others t how (later_end middle last) in
          ended_once early e others rs one.0 earlier how turn one.1
          (subst (λ (x : ℕ). Contains others (effects.SubtransactionEnded x how)) (one_branch w told k f c own t other.0 one.0 other.2 one.2) other.1)
      by middle last later (inr between) = later middle behind t how earlier last between

  -- nor one that had ended before
  pub ends_once_now : (early : Bool) (some : List Effect) → EndInTurn early some f.rows → IsTrue (is_live_branch (rows_told some f.rows) 0) → (entries : List Entry)
      (done : List Finished) → SubtransactionsEndOnce (told ++ (all_effect_lines w c some ++ all_finished_lines entries done))
  ends_once_now early some turn live entries done before behind t how earlier is s =
      elim (split_cases (known told) (known new) before behind (lines.SubDone t how) (sym (filter_map-append known_in told new) ∙ is)) [
        | inl first ↦ k.ends before first.0 t how earlier first.1 s
        | inr (middle, front, last) ↦
            by middle (sym same ∙ last) (stands_cases (known told) middle (lines.SubDone t earlier) (subst (Stands (lines.SubDone t earlier)) front s))
      ]
    where
      new : List Told
      new = all_effect_lines w c some ++ all_finished_lines entries done

      same : known new ≡ known (all_effect_lines w c some)
      same = filter_map-append known_in (all_effect_lines w c some) (all_finished_lines entries done)
          ∙ ap (λ (ls : List Line). known (all_effect_lines w c some) ++ ls) (finished_unknown entries done) ∙ append-nil _

      was_ended : (b : ℕ) → IsBranch w f t b → 0 < b → Contains some (effects.SubtransactionEnded b how) → Stands (lines.SubDone t earlier) (known told) → ⊥
      was_ended b branch below among before_that =
          ended_not_live f.rows b earlier (((k.families key f there).ends t b earlier branch below).0 (among_turned _ _ before_that))
          (was_live early some f.rows b how turn among)

      by : (middle : List Line) → known (all_effect_lines w c some) ≡ middle ++ (lines.SubDone t how ∷ behind)
          → Stands (lines.SubDone t earlier) (known told) ⊎ Stands (lines.SubDone t earlier) middle → ⊥
      by middle last (inl before_that) =
          let at = end_of some t how (subst (Stands (lines.SubDone t how)) (sym last) (stands_here middle (lines.SubDone t how) behind)) in
          was_ended at.0 at.2 (not_top w told k key f there c own early some turn entries done live at.0 how at.1) at.1 before_that
      by middle last (inr between) = new_once early some f.rows turn middle behind t how earlier last between

-- ---- who takes part then

module _ (w : World) (told : List Told) (k : Known w told) (key : ObjectKey) (f : Family) (there : family_at w key ≡ Some f) (c : Cast) (own : c.key ≡ f.key)
    (early : Bool) (some : List Effect) (turn : EndInTurn early some f.rows) (entries : List Entry) (done : List Finished)
    (tells : TellsEffects told (told ++ (all_effect_lines w c some ++ all_finished_lines entries done))) where
  abbrev more : List Told
  more = told ++ (all_effect_lines w c some ++ all_finished_lines entries done)

  -- one joins its family by a subtransaction that is committed now
  abbrev pub JoinsNow : List ℕ → Type 0
  JoinsNow name = (b : ℕ) × Contains some (effects.SubtransactionEnded b true) × (name ≡ (k.families key f there).name)

  family_back : (name : List ℕ) → IsFamily name (known more) → IsFamily name (known told)
  family_back name (inl (node, s)) = inl (node, tells.back _ refl s)
  family_back name (inr (above, (node, s))) = inr (above, (node, tells.back _ refl s))

  of_back : (name t : List ℕ) → IsOf (known more) name t → IsOf (lines_of told) name t
  of_back name _ (safe.IsOf.own family) = safe.IsOf.own (turned name (family_back name family))
    where
      turned : (n : List ℕ) → IsFamily n (known told) → IsFamily n (lines_of told)
      turned n (inl (node, s)) = inl (node, among_turned _ _ s)
      turned n (inr (above, (node, s))) = inr (above, (node, among_turned _ _ s))
  of_back name _ (safe.IsOf.child t parent sub above) = safe.IsOf.child t parent (among_turned _ _ (tells.back _ refl sub)) (of_back name parent above)

  joined_cases : (name t : List ℕ) → IsJoined (known more) name t → IsJoined (known told) name t ⊎ JoinsNow name
  joined_cases name _ (safe.IsJoined.own family) = inl (safe.IsJoined.own (family_back name family))
  joined_cases name _ (safe.IsJoined.committed t parent ended sub above) = by (joined_cases name parent above) (line_cases w told k key f there c own early some turn entries done _ ended)
    where
      of_same : (b : ℕ) → IsBranch w f t b → name ≡ (k.families key f there).name
      of_same b branch =
          let of = of_key w told k name t branch.0 (of_back name t (joined_of (known more) name t (safe.IsJoined.committed t parent ended sub above))) branch.1 in
          k.names.keys name (k.families key f there).name (things.Transaction f.key)
          (subst (λ (x : ObjectKey). IsTransaction w name x) (first_key w told k key f there t b branch) of) (k.families key f there).of_name

      by : IsJoined (known told) name parent ⊎ JoinsNow name
          → Stands (lines.SubDone t true) (known told) ⊎ ((e : Effect) × Contains some e × Says w c e (tell.Known (lines.SubDone t true)))
          → IsJoined (known told) name t ⊎ JoinsNow name
      by (inr now) so = inr now
      by (inl higher) (inl was) = inl (safe.IsJoined.committed t parent was (tells.back _ refl sub) higher)
      by (inl higher) (inr (e, among, (b, is, named))) =
          inr (b, subst (λ (x : Effect). Contains some x) is among, of_same b (branch_named w told k key f there c own b t named))

  pub part_cases : (p name : List ℕ) → TakesPart p name (known more) → TakesPart p name (known told) ⊎ JoinsNow name
  part_cases p name (t, (end, registered), joined) = elim (joined_cases name t joined) [
    | inl was ↦ inl (t, (end, tells.back _ refl registered), was)
    | inr now ↦ inr now
  ]
