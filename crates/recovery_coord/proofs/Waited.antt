-- What the registrations of a record wait for, taken together: what one more makes of it, and what it says of each.
use Rattle.std.proofs.Common.{◌≡◌, ◌∙◌, ℕ, ◌+◌, ◌<◌, Bool, true, false, not, ◌&&◌, ◌||◌, List, [], ◌∷◌, ◌++◌, length, get_or, map, take, drop, refl, sym, ap, arith}
use Rattle.std.specs.List.{cons_option, filter_map, list_any}
use Rattle.std.proofs.Math.Bool.{or-false}
use Rattle.std.proofs.lemmas.List.{drop_more, get_or_at, length-map, length-take, map_more}
use Rattle.std.proofs.lemmas.List.Folds.{list_any-append}
use Rattle.recovery_coord.specs.declared.held.Due.{Due}
use Rattle.recovery_coord.specs.declared.held.Due.TheVariants as due
use Rattle.recovery_coord.specs.declared.held.Party.{Party}
use Rattle.recovery_coord.specs.Held.{are_done, is_nothing}
use Rattle.recovery_coord.specs.Telling.{word_by, word_to}
use Rattle.recovery_coord.specs.Waiting.{have_words, is_commit, is_forget, waiting_of, waiting_with}

-- ---- one more

pub waiting_push : (ps : List Party) (p : Party) → waiting_of (ps ++ p ∷ []) ≡ waiting_with p.due (waiting_of ps)
waiting_push ps p =
    ap (λ (b : Bool). record { commit = b; forget = list_any (λ (q : Party). is_forget q.due) (ps ++ p ∷ []) }) (any_push (λ (q : Party). is_commit q.due))
    ∙ ap (λ (b : Bool). record { commit = list_any (λ (q : Party). is_commit q.due) ps || is_commit p.due; forget = b }) (any_push (λ (q : Party). is_forget q.due))
  where
    any_push : (test : Party → Bool) → list_any test (ps ++ p ∷ []) ≡ (list_any test ps || test p)
    any_push test = list_any-append test ps (p ∷ []) ∙ ap (λ (b : Bool). list_any test ps || b) (or-false (test p))

-- a registration among others is changed, as those before it were
pub waiting_over_more : (f : Party → Party) (ps qs : List Party) (i : ℕ) (p : Party) → i < length ps → qs ≡ map f (take i ps) ++ drop i ps → p ≡ get_or qs i p
    → waiting_of (map f (take (i + 1) ps)) ≡ waiting_with (f p).due (waiting_of (map f (take i ps)))
waiting_over_more f ps qs i p lt so_far is =
    let front = map f (take i ps) in
    let long : length front ≡ i = length-map (take i ps) f ∙ omega (arith, length-take i ps) in
    let parts : qs ≡ front ++ get_or ps i p ∷ drop (i + 1) ps = so_far ∙ ap (λ (l : List Party). front ++ l) (drop_more ps i p lt) in
    let read : p ≡ get_or ps i p = is ∙ ap (λ (l : List Party). get_or l i p) parts ∙ get_or_at front _ _ p i long in
    ap waiting_of (map_more f ps i p lt)
    ∙ waiting_push front (f (get_or ps i p))
    ∙ ap (λ (q : Party). waiting_with (f q).due (waiting_of front)) (sym read)

-- ---- what it says of each

pub over : (ps : List Party) → (not (waiting_of ps).commit && not (waiting_of ps).forget) ≡ are_done ps
over [] = refl
over (p ∷ ps) = by_due p.due (waiting_of ps).commit (waiting_of ps).forget (over ps)
  where
    by_due : (d : Due) (c f : Bool) → (not c && not f) ≡ are_done ps → (not (is_commit d || c) && not (is_forget d || f)) ≡ (is_nothing d && are_done ps)
    by_due due.Commit c f rest = refl
    by_due due.Forget true f rest = refl
    by_due due.Forget false f rest = refl
    by_due due.Nothing c f rest = rest

module _ (life place : ℕ) where
  pub no_words : (decided : Bool) (ps : List Party) → have_words decided (waiting_of ps) ≡ false → filter_map (word_to life place decided) ps ≡ []
  no_words decided [] e = refl
  no_words decided (p ∷ ps) e = by_due decided p.due (waiting_of ps).commit (waiting_of ps).forget (no_words decided ps) e
    where
      by_due : (decided : Bool) (d : Due) (c f : Bool) → ((c || (decided && f)) ≡ false → filter_map (word_to life place decided) ps ≡ [])
          → ((is_commit d || c) || (decided && (is_forget d || f))) ≡ false → cons_option (word_by life place decided p d) (filter_map (word_to life place decided) ps) ≡ []
      by_due decided due.Commit c f rest e = absurd (cc (e))
      by_due true due.Forget true f rest e = absurd (cc (e))
      by_due true due.Forget false f rest e = absurd (cc (e))
      by_due false due.Forget c f rest e = rest e
      by_due true due.Nothing c f rest e = rest e
      by_due false due.Nothing c f rest e = rest e
