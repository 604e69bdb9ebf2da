-- A configuration is refused with its first fault.
use Rattle.std.proofs.Common.{◌≡◌, ℕ, ℤ, pos, ◌⊎◌, inl, inr, Bool, true, false, List, [], ◌∷◌, ◌++◌, Option, Some, None, Result, Ok, Err, refl, sym, ap, ◌∙◌, cond, subst}
use Rattle.std.proofs.lemmas.Bool.{false≢true}
use Rattle.std.proofs.lemmas.Option.{none-some, same_Some}
use Rattle.std.proofs.lemmas.Str.{is_utf8-from_IsUtf8}
use Rattle.std.specs.Option.{ok_or}
use Rattle.std.specs.Str.{is_utf8}
use Rattle.toml.specs.Data.{Data, Items, no_items, item, Members, as_array, as_integer, as_str, array, get_member, integer, string}
use Rattle.toml.specs.Parse.{parse_document}
use Rattle.noc_topo.specs.Lists.{Each}
use Rattle.noc_topo.specs.declared.shape.Kind.{Kind}
use Rattle.noc_route.specs.Names.{rule_of, rule_name}
use Rattle.noc_route.specs.declared.rule.RuleName.{RuleName}
use Rattle.noc_route.proofs.NameLemmas.{rule-of_name}
use Rattle.noc_bytes.specs.declared.input_fault.InputFault.{InputFault}
use Rattle.noc_bytes.specs.declared.input_fault.InputFault.TheVariants.{BadToml, BadValue, MissingKey, UnknownKey, WrongType}
use Rattle.noc_bytes.specs.declared.input_fault.Key.{Key}
use Rattle.noc_bytes.specs.declared.input_fault.Key.TheVariants as key
use Rattle.noc_files.specs.declared.configuration.TheConstants.{MAX_CYCLES}
use Rattle.noc_packet.specs.declared.limits.TheConstants.{MAX_BUFFER, MAX_CHANNELS, MAX_CLASSES}
use Rattle.noc_files.specs.Configuration.{AreIntegers, HasAllowed, HasBadKey, HasValue, IsAllowed, IsConfigurationFault, IsDocument, IsIntegerIn, IsKeyFault, IsNoDocument, IsOfType, Settings, all_integers, all_known, config_at, config_of, document_of, integers, kind_at, kind_of, kind_name, lengths_of, integer_in, radix_at, rule_setting, typed_at, within}
use Rattle.noc_files.specs.Gives.{◌>>=◌}
use Rattle.noc_bytes.specs.Keys.{key_name}
use Rattle.noc_files.proofs.ConfigurationLemmas.{are_keys, are_lengths, array_is, document_is, integer_is, is_kind, is_within, keys_are, kind_at_is, integer_found, radix_is, rule_at_is, string_is, typed_is}
use Rattle.noc_files.proofs.SheetLemmas.{bind_ok}
use Rattle.noc_files.proofs.TrafficLemmas.{found_in}

err_of : {X : Type 0} (o : Option X) (fault found : InputFault) → ok_or o fault ≡ Err found → (o ≡ None) × (found ≡ fault)
err_of None fault found e = (refl, cc)
err_of (Some x) fault found e = absurd (cc)

bind_err : {A B : Type 0} (r : Result A InputFault) (f : A → Result B InputFault) (fault : InputFault) → (r >>= f) ≡ Err fault → (r ≡ Err fault) ⊎ ((x : A) × (r ≡ Ok x) × (f x ≡ Err fault))
bind_err (Ok x) f fault e = inr (x, refl, e)
bind_err {A} (Err found) f fault e = let same : found ≡ fault = cc in inl (ap (λ (t : InputFault). Err t) same)

-- ---- the fault of one key

typed_fault : {X : Type 0} (as_type : Data → Option X) (of_type : X → Data) (reads : (x : X) → as_type (of_type x) ≡ Some x) (k : Key) (only : (d : Data) → IsOfType k d → (x : X) × (d ≡ of_type x)) (ms : Members) (fault : InputFault)
    → typed_at as_type k ms ≡ Err fault → IsKeyFault ms k fault
typed_fault as_type of_type reads k only ms fault e =
    elim (bind_err (ok_or (get_member (key_name k) ms) (MissingKey k)) (λ d. ok_or (as_type d) (WrongType k)) fault e) [
      | inl early ↦ let none = err_of (get_member (key_name k) ms) (MissingKey k) fault early in inl (record { lacks = none.0; fault_is = none.1 })
      | inr found ↦ let none = err_of (as_type found.0) (WrongType k) fault found.2 in
          inr (inl (record {
            value = found.0;
            there = found_in (get_member (key_name k) ms) (MissingKey k) found.0 found.1;
            other_type = λ h. let x = only found.0 h in none-some x.0 (sym none.0 ∙ ap as_type x.1 ∙ reads x.0);
            fault_is = none.1;
          }))
    ]

kind_fault : (ms : Members) (fault : InputFault) → kind_at ms ≡ Err fault → IsKeyFault ms key.Kind fault
unfolding kind_at
kind_fault ms fault e =
    elim (bind_err (typed_at as_str key.Kind ms) (λ w. ok_or (kind_of w) (BadValue key.Kind)) fault e) [
      | inl early ↦ typed_fault as_str string (λ w. refl) key.Kind (λ d h. h) ms fault early
      | inr found ↦ let none = err_of (kind_of found.0) (BadValue key.Kind) fault found.2 in
          inr (inr (record {
            value = string found.0;
            there = typed_is as_str string string_is key.Kind ms found.0 found.1;
            of_type = (found.0, refl);
            not_allowed = λ h. let same : found.0 ≡ kind_name h.0 = cc in none-some h.0 (sym none.0 ∙ ap kind_of same ∙ is_kind h.0);
            fault_is = none.1;
          }))
    ]

rule_fault : (ms : Members) (fault : InputFault) → rule_setting ms ≡ Err fault → IsKeyFault ms key.Rule fault
unfolding rule_setting
rule_fault ms fault e =
    elim (bind_err (typed_at as_str key.Rule ms) (λ w. ok_or (rule_of w) (BadValue key.Rule)) fault e) [
      | inl early ↦ typed_fault as_str string (λ w. refl) key.Rule (λ d h. h) ms fault early
      | inr found ↦ let none = err_of (rule_of found.0) (BadValue key.Rule) fault found.2 in
          inr (inr (record {
            value = string found.0;
            there = typed_is as_str string string_is key.Rule ms found.0 found.1;
            of_type = (found.0, refl);
            not_allowed = λ h. let same : found.0 ≡ rule_name h.0 = cc in none-some h.0 (sym none.0 ∙ ap rule_of same ∙ rule-of_name h.0);
            fault_is = none.1;
          }))
    ]

integer_fault : (ms : Members) (k : Key) (low high : ℕ) (only : (d : Data) → IsOfType k d → (z : ℤ) × (d ≡ integer z)) (made : (z : ℤ) → IsOfType k (integer z)) (limited : (d : Data) → IsAllowed k d → IsIntegerIn low high d) (fault : InputFault)
    → integer_in k low high ms ≡ Err fault → IsKeyFault ms k fault
integer_fault ms k low high only made limited fault e =
    elim (bind_err (typed_at as_integer k ms) (λ z. ok_or (within low high z) (BadValue k)) fault e) [
      | inl early ↦ typed_fault as_integer integer (λ z. refl) k only ms fault early
      | inr found ↦ let none = err_of (within low high found.0) (BadValue k) fault found.2 in
          inr (inr (record {
            value = integer found.0;
            there = typed_is as_integer integer integer_is k ms found.0 found.1;
            of_type = made found.0;
            not_allowed = λ h.
                let n = limited (integer found.0) h in
                let same : found.0 ≡ pos n.0 = cc (n.1) in
                none-some n.0 (sym none.0 ∙ ap (within low high) same ∙ is_within low high n.0 n.2 n.3);
            fault_is = none.1;
          }))
    ]

integers_are : (ds : Items) → all_integers ds ≡ true → AreIntegers ds
integers_are no_items e = tt
integers_are (item d ds) e = by (as_integer d) refl (integers_are ds)
  where
    by : (o : Option ℤ) → as_integer d ≡ o → (all_integers ds ≡ true → AreIntegers ds) → AreIntegers (item d ds)
    by (Some z) is more = ((z, integer_is d z is), more (rw is at e))
    by None other more = let no : false ≡ true = rw other at e in absurd (false≢true no)

are_integers : (ds : Items) → AreIntegers ds → all_integers ds ≡ true
are_integers no_items h = refl
are_integers (item d ds) h = rw (h.0.1, are_integers ds h.1) refl

radix_fault : (ms : Members) (fault : InputFault) → radix_at ms ≡ Err fault → IsKeyFault ms key.Radix fault
unfolding radix_at
radix_fault ms fault e =
    elim (bind_err (typed_at as_array key.Radix ms) (λ ds. cond (all_integers ds) (ok_or (lengths_of ds) (BadValue key.Radix)) (Err (WrongType key.Radix))) fault e) [
      | inl early ↦ typed_fault as_array array (λ ds. refl) key.Radix (λ d h. (h.0, h.1)) ms fault early
      | inr found ↦ by found.0 (typed_is as_array array array_is key.Radix ms found.0 found.1) (all_integers found.0) refl found.2
    ]
  where
    by : (ds : Items) → HasValue ms key.Radix (array ds) → (b : Bool) → all_integers ds ≡ b → cond (all_integers ds) (ok_or (lengths_of ds) (BadValue key.Radix)) (Err (WrongType key.Radix)) ≡ Err fault → IsKeyFault ms key.Radix fault
    by ds value true all said =
        let none = err_of (lengths_of ds) (BadValue key.Radix) fault (rw all at said) in
        inr (inr (record {
          value = array ds;
          there = value;
          of_type = (ds, refl, integers_are ds all);
          not_allowed = λ h. let same : ds ≡ integers h.0 = cc (h.1) in none-some h.0 (sym none.0 ∙ ap lengths_of same ∙ (are_lengths h.0 h.2).1);
          fault_is = none.1;
        }))
    by ds value false other said =
        let is : Path (Result (List ℕ) InputFault) (Err (WrongType key.Radix)) (Err fault) = rw other at said in
        inr (inl (record {
          value = array ds;
          there = value;
          other_type = λ h. let same : ds ≡ h.0 = cc (h.1) in false≢true (sym other ∙ ap all_integers same ∙ are_integers h.0 h.2);
          fault_is = cc;
        }))

-- ---- a key without a fault

kind_good : (ms : Members) (k : Kind) → kind_at ms ≡ Ok k → HasAllowed ms key.Kind
kind_good ms k e = (string (kind_name k), kind_at_is ms k e, (k, refl))

rule_good : (ms : Members) (r : RuleName) → rule_setting ms ≡ Ok r → HasAllowed ms key.Rule
rule_good ms r e = (string (rule_name r), rule_at_is ms r e, (r, refl))

radix_good : (ms : Members) (ns : List ℕ) → radix_at ms ≡ Ok ns → HasAllowed ms key.Radix
radix_good ms ns e = let sizes = radix_is ms ns e in (array (integers ns), sizes.0, (ns, refl, sizes.1))

integer_good : (ms : Members) (k : Key) (low high n : ℕ) (allowed : (d : Data) → IsIntegerIn low high d → IsAllowed k d) → integer_in k low high ms ≡ Ok n → HasAllowed ms k
integer_good ms k low high n allowed e =
    let h = integer_found ms k low high n e in
    (integer (pos n), h.value, allowed (integer (pos n)) (n, refl, h.least, h.most))

lengths_are_integers : (ns : List ℕ) → AreIntegers (integers ns)
lengths_are_integers [] = tt
lengths_are_integers (n ∷ ns) = ((pos n, refl), lengths_are_integers ns)

allowed_of_type : (k : Key) (d : Data) → IsAllowed k d → IsOfType k d
allowed_of_type key.Kind d h = (kind_name h.0, h.1)
allowed_of_type key.Radix d h = (integers h.0, h.1, lengths_are_integers h.0)
allowed_of_type key.Channels d h = (pos h.0, h.1)
allowed_of_type key.Buffer d h = (pos h.0, h.1)
allowed_of_type key.Classes d h = (pos h.0, h.1)
allowed_of_type key.Rule d h = (rule_name h.0, h.1)
allowed_of_type key.Cycles d h = (pos h.0, h.1)

same_value : (ms : Members) (k : Key) (a b : Data) → HasValue ms k a → HasValue ms k b → a ≡ b
same_value ms k a b x y = same_Some a b (sym x ∙ y)

not_both : (ms : Members) (k : Key) (fault : InputFault) → HasAllowed ms k → IsKeyFault ms k fault → ⊥
not_both ms k fault h (inl w) = none-some h.0 (sym w.lacks ∙ h.1)
not_both ms k fault h (inr (inl w)) = w.other_type (allowed_of_type k w.value (subst (IsAllowed k) (same_value ms k h.0 w.value h.1 w.there) h.2))
not_both ms k fault h (inr (inr w)) = w.not_allowed (subst (IsAllowed k) (same_value ms k h.0 w.value h.1 w.there) h.2)

one_fault : (ms : Members) (k : Key) (f g : InputFault) → IsKeyFault ms k f → IsKeyFault ms k g → f ≡ g
one_fault ms k f g (inl a) (inl b) = a.fault_is ∙ sym b.fault_is
one_fault ms k f g (inl a) (inr (inl b)) = absurd (none-some b.value (sym a.lacks ∙ b.there))
one_fault ms k f g (inl a) (inr (inr b)) = absurd (none-some b.value (sym a.lacks ∙ b.there))
one_fault ms k f g (inr (inl a)) (inl b) = absurd (none-some a.value (sym b.lacks ∙ a.there))
one_fault ms k f g (inr (inr a)) (inl b) = absurd (none-some a.value (sym b.lacks ∙ a.there))
one_fault ms k f g (inr (inl a)) (inr (inl b)) = a.fault_is ∙ sym b.fault_is
one_fault ms k f g (inr (inr a)) (inr (inr b)) = a.fault_is ∙ sym b.fault_is
one_fault ms k f g (inr (inl a)) (inr (inr b)) = absurd (a.other_type (subst (IsOfType k) (same_value ms k b.value a.value b.there a.there) b.of_type))
one_fault ms k f g (inr (inr a)) (inr (inl b)) = absurd (b.other_type (subst (IsOfType k) (same_value ms k a.value b.value a.there b.there) a.of_type))

-- ---- the first key with a fault

bad_key : (ms : Members) (fault : InputFault) → config_at ms ≡ Err fault → HasBadKey ms fault
unfolding config_at
bad_key ms fault e =
    elim (bind_err (kind_at ms) _ fault e) [
      | inl bad ↦ record { before = []; bad = key.Kind; others = key.Radix ∷ key.Channels ∷ key.Buffer ∷ key.Classes ∷ key.Rule ∷ key.Cycles ∷ []; in_order = refl; good = tt; fault_is = kind_fault ms fault bad }
      | inr a ↦ let ka = kind_good ms a.0 a.1 in
          elim (bind_err (radix_at ms) _ fault a.2) [
            | inl bad ↦ record { before = key.Kind ∷ []; bad = key.Radix; others = key.Channels ∷ key.Buffer ∷ key.Classes ∷ key.Rule ∷ key.Cycles ∷ []; in_order = refl; good = (ka, tt); fault_is = radix_fault ms fault bad }
            | inr b ↦ let kb = radix_good ms b.0 b.1 in
                elim (bind_err (integer_in key.Channels 1 MAX_CHANNELS ms) _ fault b.2) [
                  | inl bad ↦ record { before = key.Kind ∷ key.Radix ∷ []; bad = key.Channels; others = key.Buffer ∷ key.Classes ∷ key.Rule ∷ key.Cycles ∷ []; in_order = refl; good = (ka, (kb, tt)); fault_is = integer_fault ms key.Channels 1 MAX_CHANNELS (λ d h. h) (λ z. (z, refl)) (λ d h. h) fault bad }
                  | inr c ↦ let kc = integer_good ms key.Channels 1 MAX_CHANNELS c.0 (λ d h. h) c.1 in
                      elim (bind_err (integer_in key.Buffer 1 MAX_BUFFER ms) _ fault c.2) [
                        | inl bad ↦ record { before = key.Kind ∷ key.Radix ∷ key.Channels ∷ []; bad = key.Buffer; others = key.Classes ∷ key.Rule ∷ key.Cycles ∷ []; in_order = refl; good = (ka, (kb, (kc, tt))); fault_is = integer_fault ms key.Buffer 1 MAX_BUFFER (λ d h. h) (λ z. (z, refl)) (λ d h. h) fault bad }
                        | inr f ↦ let kf = integer_good ms key.Buffer 1 MAX_BUFFER f.0 (λ d h. h) f.1 in
                            elim (bind_err (integer_in key.Classes 1 MAX_CLASSES ms) _ fault f.2) [
                              | inl bad ↦ record { before = key.Kind ∷ key.Radix ∷ key.Channels ∷ key.Buffer ∷ []; bad = key.Classes; others = key.Rule ∷ key.Cycles ∷ []; in_order = refl; good = (ka, (kb, (kc, (kf, tt)))); fault_is = integer_fault ms key.Classes 1 MAX_CLASSES (λ d h. h) (λ z. (z, refl)) (λ d h. h) fault bad }
                              | inr g ↦ let kg = integer_good ms key.Classes 1 MAX_CLASSES g.0 (λ d h. h) g.1 in
                                  elim (bind_err (rule_setting ms) _ fault g.2) [
                                    | inl bad ↦ record { before = key.Kind ∷ key.Radix ∷ key.Channels ∷ key.Buffer ∷ key.Classes ∷ []; bad = key.Rule; others = key.Cycles ∷ []; in_order = refl; good = (ka, (kb, (kc, (kf, (kg, tt))))); fault_is = rule_fault ms fault bad }
                                    | inr h ↦ let kh = rule_good ms h.0 h.1 in
                                        elim (bind_err (integer_in key.Cycles 1 MAX_CYCLES ms) _ fault h.2) [
                                          | inl bad ↦ record { before = key.Kind ∷ key.Radix ∷ key.Channels ∷ key.Buffer ∷ key.Classes ∷ key.Rule ∷ []; bad = key.Cycles; others = []; in_order = refl; good = (ka, (kb, (kc, (kf, (kg, (kh, tt)))))); fault_is = integer_fault ms key.Cycles 1 MAX_CYCLES (λ d h. h) (λ z. (z, refl)) (λ d h. h) fault bad }
                                          | inr all ↦ let no = all.2 in absurd (cc no)
                                        ]
                                  ]
                            ]
                      ]
                ]
          ]
    ]

all_good : (ms : Members) (s : Settings) → config_at ms ≡ Ok s → (k : Key) → HasAllowed ms k
unfolding config_at
all_good ms s e k =
    let kind = bind_ok (kind_at ms) _ s e in
    let radix = bind_ok (radix_at ms) _ s kind.2 in
    let channels = bind_ok (integer_in key.Channels 1 MAX_CHANNELS ms) _ s radix.2 in
    let buffer = bind_ok (integer_in key.Buffer 1 MAX_BUFFER ms) _ s channels.2 in
    let classes = bind_ok (integer_in key.Classes 1 MAX_CLASSES ms) _ s buffer.2 in
    let rule = bind_ok (rule_setting ms) _ s classes.2 in
    let cycles = bind_ok (integer_in key.Cycles 1 MAX_CYCLES ms) _ s rule.2 in
    elim k as (λ (k : Key). HasAllowed ms k) [
      | key.Kind ↦ kind_good ms kind.0 kind.1
      | key.Radix ↦ radix_good ms radix.0 radix.1
      | key.Channels ↦ integer_good ms key.Channels 1 MAX_CHANNELS channels.0 (λ d h. h) channels.1
      | key.Buffer ↦ integer_good ms key.Buffer 1 MAX_BUFFER buffer.0 (λ d h. h) buffer.1
      | key.Classes ↦ integer_good ms key.Classes 1 MAX_CLASSES classes.0 (λ d h. h) classes.1
      | key.Rule ↦ rule_good ms rule.0 rule.1
      | key.Cycles ↦ integer_good ms key.Cycles 1 MAX_CYCLES cycles.0 (λ d h. h) cycles.1
    ]

first_bad : (ms : Members) (f g : InputFault) (before before' : List Key) (bad bad' : Key) (others others' : List Key) → before ++ bad ∷ others ≡ before' ++ bad' ∷ others' → Each (HasAllowed ms) before → Each (HasAllowed ms) before'
    → IsKeyFault ms bad f → IsKeyFault ms bad' g → f ≡ g
first_bad ms f g [] [] bad bad' others others' e good good' x y = let same : bad ≡ bad' = cc in one_fault ms bad' f g (subst (λ (k : Key). IsKeyFault ms k f) same x) y
first_bad ms f g [] (k ∷ before') bad bad' others others' e good good' x y = let same : bad ≡ k = cc in absurd (not_both ms k f good'.0 (subst (λ (j : Key). IsKeyFault ms j f) same x))
first_bad ms f g (k ∷ before) [] bad bad' others others' e good good' x y = let same : bad' ≡ k = cc in absurd (not_both ms k g good.0 (subst (λ (j : Key). IsKeyFault ms j g) same y))
first_bad ms f g (k ∷ before) (k' ∷ before') bad bad' others others' e good good' x y =
    let rest : before ++ bad ∷ others ≡ before' ++ bad' ∷ others' = cc in
    first_bad ms f g before before' bad bad' others others' rest good.1 good'.1 x y

key_bad : (ms : Members) (fault : InputFault) → HasBadKey ms fault → config_at ms ≡ Err fault
key_bad ms fault h = by (config_at ms) refl
  where
    by : (r : Result Settings InputFault) → config_at ms ≡ r → config_at ms ≡ Err fault
    by (Ok s) is = absurd (not_both ms h.bad fault (all_good ms s is h.bad) h.fault_is)
    by (Err found) is =
        let other = bad_key ms found is in
        is ∙ ap (λ (t : InputFault). Err t) (first_bad ms found fault other.before h.before other.bad h.bad other.others h.others (sym other.in_order ∙ h.in_order) other.good h.good other.fault_is h.fault_is)

-- ---- the whole

no_document : (text : List ℕ) (fault : InputFault) → document_of text ≡ Err fault → IsNoDocument text fault
no_document text fault e = by (is_utf8 text) refl
  where
    by : (b : Bool) → is_utf8 text ≡ b → IsNoDocument text fault
    by true utf8 = let none = err_of (parse_document text) BadToml fault (rw utf8 at e) in record { none = λ ms h. none-some ms (sym none.0 ∙ h.parsed); fault_is = none.1 }
    by false other =
        let is : Path (Result Members InputFault) (Err BadToml) (Err fault) = rw other at e in
        record { none = λ ms h. false≢true (sym other ∙ is_utf8-from_IsUtf8 text h.utf8); fault_is = cc }

-- a text is refused with this fault just where it is its first
pub configuration_fault : (text : List ℕ) (fault : InputFault) → config_of text ≡ Err fault → IsConfigurationFault text fault
configuration_fault text fault e =
    elim (bind_err (document_of text) (λ ms. cond (all_known ms) (config_at ms) (Err UnknownKey)) fault e) [
      | inl early ↦ inl (no_document text fault early)
      | inr found ↦ let document = document_is text found.0 found.1 in by found.0 (record { utf8 = document.0; parsed = document.1 }) (all_known found.0) refl found.2
    ]
  where
    by : (ms : Members) → IsDocument text ms → (b : Bool) → all_known ms ≡ b → cond (all_known ms) (config_at ms) (Err UnknownKey) ≡ Err fault → IsConfigurationFault text fault
    by ms document true known said = inr (inr (record { members = ms; document = document; known = keys_are ms known; bad = bad_key ms fault (rw known at said) }))
    by ms document false unknown said =
        let is : Path (Result Settings InputFault) (Err UnknownKey) (Err fault) = rw unknown at said in
        inr (inl (record { members = ms; document = document; unknown = λ h. false≢true (sym unknown ∙ are_keys ms h); fault_is = cc }))

pub fault_configuration : (text : List ℕ) (fault : InputFault) → IsConfigurationFault text fault → config_of text ≡ Err fault
fault_configuration text fault (inl h) = by (document_of text) refl
  where
    by : (r : Result Members InputFault) → document_of text ≡ r → config_of text ≡ Err fault
    by (Ok ms) is = let document = document_is text ms is in absurd (h.none ms (record { utf8 = document.0; parsed = document.1 }))
    by (Err found) is =
        let other = no_document text found is in
        let refused : config_of text ≡ Err found = rw is refl in
        refused ∙ ap (λ (t : InputFault). Err t) (other.fault_is ∙ sym h.fault_is)
fault_configuration text fault (inr (inl h)) = by (all_known h.members) refl
  where
    by : (b : Bool) → all_known h.members ≡ b → config_of text ≡ Err fault
    by true known = absurd (h.unknown (keys_are h.members known))
    by false unknown = rw (is_utf8-from_IsUtf8 text h.document.utf8, h.document.parsed) (rw unknown (ap (λ (t : InputFault). Err t) (sym h.fault_is)))
fault_configuration text fault (inr (inr h)) =
    rw (is_utf8-from_IsUtf8 text h.document.utf8, h.document.parsed) (rw (are_keys h.members h.known) (key_bad h.members fault h.bad))
