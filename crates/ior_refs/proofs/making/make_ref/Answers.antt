use Rattle.std.proofs.Common.{◌≡◌, ◌≤◌, ◌<◌, ◌+◌, ◌∙◌, sym, ap, arith, inr, List, ◌∷◌, [], ◌++◌, length, ℕ}
use Rattle.ior_refs.specs.Reference.{Tagged}
use Rattle.ior_refs.specs.Making.{profile_to}
use Rattle.ior_refs.proofs.Made.{host_refused, texts_refused, made_fits, made}
use Rattle.ior_refs.proofs.making.make_ref.Goals as goal

pub returns-then-has_nul-2-clause-refused : goal.returns-then-has_nul-2-clause-refused
returns-then-has_nul-2-clause-refused c =
    inr (host_refused c.args.type_id.now c.args.at.now c.args.key.now (sym c.has_nul.ensures ∙ c.if-has_nul.false) (rw c.bytes.ensures.same at (sym c.has_nul-2.ensures ∙ c.if-has_nul-2.true)))

pub returns-then-type_id-bytes-gt-REFERENCE_LIMIT-clause-refused : goal.returns-then-type_id-bytes-gt-REFERENCE_LIMIT-clause-refused
returns-then-type_id-bytes-gt-REFERENCE_LIMIT-clause-refused c =
    let many : 1024 < length c.args.type_id.now + length c.args.at.now.host = omega (arith, ap length c.bytes-2.ensures.same) in
    inr (texts_refused c.args.type_id.now c.args.at.now c.args.key.now (sym c.has_nul.ensures ∙ c.if-has_nul.false) (rw c.bytes.ensures.same at (sym c.has_nul-2.ensures ∙ c.if-has_nul-2.false)) many)

pub of_parts-requires : goal.of_parts-requires
of_parts-requires c =
    let at = c.args.at.now in
    let key = c.args.key.now in
    let items : c.push.new.self.items ≡ (0, profile_to at key) ∷ [] = c.in_ok-push.ensures.items ∙ ap (λ (xs : List Tagged). xs ++ (0, c.in_ok-profile.profile) ∷ []) c.new-profiles.ensures.items ∙ ap (λ (p : List ℕ). (0, p) ∷ []) c.in_ok-profile.ensures.profile in
    let few : length c.args.type_id.now ≤ 1024 = omega arith in
    let short : length at.host ≤ 1024 = omega (arith, ap length c.bytes-2.ensures.same) in
    rw (items, c.in_ok-new.ensures.copy) (made_fits c.args.type_id.now at key (sym c.has_nul.ensures ∙ c.if-has_nul.false) few short)

pub returns-clause-made : goal.returns-clause-made
returns-clause-made c =
    let at = c.args.at.now in
    let key = c.args.key.now in
    let items : c.push.new.self.items ≡ (0, profile_to at key) ∷ [] = c.in_ok-push.ensures.items ∙ ap (λ (xs : List Tagged). xs ++ (0, c.in_ok-profile.profile) ∷ []) c.new-profiles.ensures.items ∙ ap (λ (p : List ℕ). (0, p) ∷ []) c.in_ok-profile.ensures.profile in
    let all = made c.args.type_id.now at key c.of_parts.result (sym c.has_nul.ensures ∙ c.if-has_nul.false) (rw c.bytes.ensures.same at (sym c.has_nul-2.ensures ∙ c.if-has_nul-2.false)) (rw (items, c.in_ok-new.ensures.copy) at c.of_parts.ensures) in
    all.0

pub returns-clause-fits : goal.returns-clause-fits
returns-clause-fits c =
    let at = c.args.at.now in
    let key = c.args.key.now in
    let items : c.push.new.self.items ≡ (0, profile_to at key) ∷ [] = c.in_ok-push.ensures.items ∙ ap (λ (xs : List Tagged). xs ++ (0, c.in_ok-profile.profile) ∷ []) c.new-profiles.ensures.items ∙ ap (λ (p : List ℕ). (0, p) ∷ []) c.in_ok-profile.ensures.profile in
    let all = made c.args.type_id.now at key c.of_parts.result (sym c.has_nul.ensures ∙ c.if-has_nul.false) (rw c.bytes.ensures.same at (sym c.has_nul-2.ensures ∙ c.if-has_nul-2.false)) (rw (items, c.in_ok-new.ensures.copy) at c.of_parts.ensures) in
    all.1

pub returns-clause-refused : goal.returns-clause-refused
returns-clause-refused c =
    let at = c.args.at.now in
    let key = c.args.key.now in
    let items : c.push.new.self.items ≡ (0, profile_to at key) ∷ [] = c.in_ok-push.ensures.items ∙ ap (λ (xs : List Tagged). xs ++ (0, c.in_ok-profile.profile) ∷ []) c.new-profiles.ensures.items ∙ ap (λ (p : List ℕ). (0, p) ∷ []) c.in_ok-profile.ensures.profile in
    let all = made c.args.type_id.now at key c.of_parts.result (sym c.has_nul.ensures ∙ c.if-has_nul.false) (rw c.bytes.ensures.same at (sym c.has_nul-2.ensures ∙ c.if-has_nul-2.false)) (rw (items, c.in_ok-new.ensures.copy) at c.of_parts.ensures) in
    all.2
