use Rattle.std.proofs.Common.{◌≡◌, ◌<◌, ◌-◌, ◌%◌, ◌⊎◌, inl, inr, length, take, drop, arith, length-drop}
use Rattle.std.proofs.lemmas.List.{length-take}
use Rattle.hex.proofs.HexLemmas.{decode_of-ok}
use Rattle.ior_refs.specs.Text.{digits_in_front}
use Rattle.ior_refs.proofs.Digits.{behind, form_refused, form_told}
use Rattle.ior_refs.proofs.text.text_octets.Goals as goal
use Rattle.ior_refs.proofs.text.text_octets.Goals.{then-good-digits-via-then-good-digits, then-good-digits-via-else-good-digits+then-digits-eq1}

pub returns-in-Ok-clause-short : goal.returns-in-Ok-clause-short
returns-in-Ok-clause-short c =
    let text = c.args.text.now in
    let digits = decode_of-ok _ c.in-Ok.octets.items c.in-Ok.ensures.ok in
    let small : length c.in-Ok.octets.items < 2147483648 = omega (arith, digits.2, length-take (length text - 4) (drop 4 text), length-drop 4 text) in
    small

pub returns-then-good-digits-clause-exact : goal.returns-then-good-digits-clause-exact
returns-then-good-digits-clause-exact c =
    let text = c.args.text.now in
    let digits = take (length text - 4) (drop 4 text) in
    let bad : (digits_in_front digits < length digits) ⊎ (length digits % 2 ≡ 1) = elim c.then-good-digits.branch [
      | then-good-digits-via-then-good-digits w ↦ inl (rw (← c.digits_in_front-good.ensures) w.if-good-digits.true)
      | then-good-digits-via-else-good-digits+then-digits-eq1 w ↦ inr w.if-digits-eq1.true
    ] in
    rw (c.digits_in_front-good.ensures) (form_refused text digits (behind text) (omega (arith, c.agreeing_front-front.ensures)) bad)

pub returns-in-Err-clause-form : goal.returns-in-Err-clause-form
returns-in-Err-clause-form c =
    let text = c.args.text.now in
    let digits = take (length text - 4) (drop 4 text) in
    form_told text digits _ (behind text) (omega (arith, c.agreeing_front-front.ensures)) (rw (← c.digits_in_front-good.ensures) c.if-good-digits.false) c.if-digits-eq1.false
