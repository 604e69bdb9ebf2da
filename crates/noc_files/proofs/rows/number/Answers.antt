use Rattle.std.proofs.Common.{◌≡◌, true, sym, ◌∙◌, arith, get_or, ap, length}
use Rattle.std.specs.Str.{all_ascii_digits}
use Rattle.std.specs.Str.Parse.{digits_value_after}
use Rattle.std.proofs.lemmas.List.{drop_all}
use Rattle.noc_files.proofs.NumberLemmas.{digits_stop, digits_go, digit_is, value_go, small_go, room, number_found, some_from_test}
use Rattle.noc_files.proofs.rows.number.Goals as goal

pub returns-then-not-is_ascii_digit : goal.returns-then-not-is_ascii_digit
returns-then-not-is_ascii_digit c =
    let stop = digits_stop c.args.field.now c.loop-digit.digit-index c.loop-digit-test.true (sym c.is_ascii_digit.ensures.value ∙ c.if-not-is_ascii_digit.true) c.loop-digit.invariant.digits in
    rw stop

pub overflow_mul-value : goal.overflow_mul-value
overflow_mul-value c = omega (arith, room c.loop-digit.value c.loop-digit.digit-index (omega arith) c.loop-digit.invariant.small)

pub overflow_add-value : goal.overflow_add-value
overflow_add-value c =
    let d = digit_is (get_or c.args.field.now c.loop-digit.digit-index 0) (sym c.is_ascii_digit.ensures.value ∙ c.if-not-is_ascii_digit.false) in
    omega (arith, c.from.ensures, room c.loop-digit.value c.loop-digit.digit-index (omega arith) c.loop-digit.invariant.small)

pub loop-digit-preserved : goal.loop-digit-preserved
loop-digit-preserved c =
    let test = sym c.is_ascii_digit.ensures.value ∙ c.if-not-is_ascii_digit.false in
    let d = digit_is (get_or c.args.field.now c.loop-digit.digit-index 0) test in
    record {
      digits = digits_go c.args.field.now c.loop-digit.digit-index c.loop-digit-test.true test c.loop-digit.invariant.digits;
      value = value_go c.args.field.now c.loop-digit.digit-index c.loop-digit.value c.from.result c.loop-digit-test.true (d.0 ∙ sym c.from.ensures) c.loop-digit.invariant.value;
      small = small_go c.loop-digit.value c.loop-digit.digit-index c.from.result (omega (arith, c.from.ensures)) c.loop-digit.invariant.small;
    }

pub returns : goal.returns
returns c =
    let none = drop_all c.loop-digit.digit-index c.args.field.now c.loop-digit-test.false in
    let digits : all_ascii_digits c.args.field.now ≡ true = sym c.loop-digit.invariant.digits ∙ ap all_ascii_digits none in
    let value : digits_value_after 10 0 c.args.field.now ≡ c.loop-digit.value = sym c.loop-digit.invariant.value ∙ ap (digits_value_after 10 c.loop-digit.value) none in
    let some = some_from_test (length c.args.field.now) (sym c.is_empty.ensures ∙ c.if-is_empty.false) in
    c.ok.ensures.value ∙ number_found c.args.field.now c.loop-digit.value c.try_from.result some c.if-field-gt10.false digits (sym value) c.try_from.ensures
