-- What accepted words ask for is in range.
use Rattle.std.proofs.Common.{◌≡◌, ℕ, ◌≤◌, ◌&&◌, Bool, true, false, cond, List, [], Option, Some, None, is_none, is_some, codes, refl, arith, length}
use Rattle.std.specs.Prelude.{nat_le, unwrap_or, option_and_then}
use Rattle.std.specs.List.{list_all}
use Rattle.std.specs.Option.{option_map_or}
use Rattle.std.proofs.lemmas.Bool.{and_parts}
use Rattle.std.proofs.lemmas.Bool.Decides.{nat_tests}
use Rattle.word_rules.specs.Words.{Text, value_of, number_of, is_allowed, is_number_in, is_step, is_schedule, schedule_of, suits, mode_of, is_whole, refused_behind, refusal, number_or, request_of, IsInRange}
use Rattle.word_rules.proofs.ReadLemmas.{reads, value_allowed}

accepted : (o : Option ℕ) (b : Bool) → cond (is_some o) o (cond b None (Some 0)) ≡ None → (o ≡ None) × (b ≡ true)
accepted None true h = (refl, refl)
accepted None false h = absurd (cc)
accepted (Some n) b h = absurd (cc)

pub accepted_words : (words : List Text) → refusal words ≡ None → (refused_behind [] None words ≡ None) × (is_whole words ≡ true)
accepted_words words h = accepted (refused_behind [] None words) (is_whole words) h

pub given_is_allowed : (words : List Text) (name value : Text) → refused_behind [] None words ≡ None → value_of name words ≡ Some value → is_allowed name value ≡ true
given_is_allowed words name value h e = value_allowed [] words None name value (reads [] words None h) e

number_fits : (o : Option ℕ) (least most default : ℕ) → option_map_or (λ n. nat_le least n && nat_le n most) o false ≡ true → (least ≤ unwrap_or o default) × (unwrap_or o default ≤ most)
number_fits None least most default h = absurd (cc)
number_fits (Some n) least most default h = let both = and_parts (nat_le least n) (nat_le n most) h in (let low = both.0 in grind (arith, nat_tests), let high = both.1 in grind (arith, nat_tests))

pub Fits : ℕ → ℕ → ℕ → Option Text → Type 0
Fits least most default found = (least ≤ unwrap_or (option_and_then number_of found) default) × (unwrap_or (option_and_then number_of found) default ≤ most)

given_fits : (name : Text) (words : List Text) (found : Option Text) (least most default : ℕ) → value_of name words ≡ found → ((value : Text) → is_allowed name value ≡ true → is_number_in least most value ≡ true) →
    refused_behind [] None words ≡ None → (is_none found ≡ true → (least ≤ default) × (default ≤ most)) → Fits least most default found
unfolding Fits
given_fits name words None least most default e allowed h d = d refl
given_fits name words (Some value) least most default e allowed h d = number_fits (number_of value) least most default (allowed value (given_is_allowed words name value h e))

fits : (name : Text) (words : List Text) (least most default : ℕ) → ((value : Text) → is_allowed name value ≡ true → is_number_in least most value ≡ true) →
    refused_behind [] None words ≡ None → (is_none (value_of name words) ≡ true → (least ≤ default) × (default ≤ most)) → (least ≤ number_or default name words) × (number_or default name words ≤ most)
unfolding Fits
fits name words least most default allowed h d = given_fits name words (value_of name words) least most default refl allowed h d

given_stop : (o : Option Text) → is_some o ≡ true → is_none o ≡ true → ⊥
given_stop None h none = cc
given_stop (Some x) h none = cc

both : (a b : Bool) → a ≡ true → b ≡ true → (a && b) ≡ true
both a b e f = rw (e, f)

size_widens : (o : Option ℕ) → option_map_or (λ n. nat_le 1 n && nat_le n 15) o false ≡ true → option_map_or (λ n. nat_le 0 n && nat_le n 15) o false ≡ true
size_widens None h = h
size_widens (Some n) h = both (nat_le 0 n) (nat_le n 15) (grind (arith, nat_tests)) (and_parts (nat_le 1 n) (nat_le n 15) h).1

size_fits : (value : Text) → is_number_in 1 15 value ≡ true → is_number_in 0 15 value ≡ true
size_fits value h = size_widens (number_of value) h

-- a schedule is short, and of letters that are steps
Steps : Text → Type 0
Steps text = (length text ≤ 4096) × (list_all is_step text ≡ true)

are_steps : (text : Text) → is_schedule text ≡ true → Steps text
unfolding Steps
are_steps text h =
    let both = and_parts (nat_le 1 (length text) && nat_le (length text) 4096) (list_all is_step text) h in
    let few = (and_parts (nat_le 1 (length text)) (nat_le (length text) 4096) both.0).1 in
    (grind (arith, nat_tests), both.1)

given_steps : (words : List Text) (found : Option Text) → value_of (codes "schedule") words ≡ found → refused_behind [] None words ≡ None → Steps (unwrap_or found [])
unfolding Steps is_allowed
given_steps words None e h = (omega arith, refl)
given_steps words (Some value) e h = are_steps value (given_is_allowed words (codes "schedule") value h e)

schedule_fits : (words : List Text) → refused_behind [] None words ≡ None → (length (schedule_of words) ≤ 4096) × (list_all is_step (schedule_of words) ≡ true)
unfolding Steps
schedule_fits words h = given_steps words (value_of (codes "schedule") words) refl h

pub in_range : (words : List Text) → refusal words ≡ None → IsInRange (request_of words)
unfolding is_whole is_allowed
in_range words h =
    let right = accepted_words words h in
    let four = and_parts (suits (mode_of words) words && is_some (value_of (codes "stop") words) && nat_le (number_or 1 (codes "hmin") words) (number_or 1000 (codes "h0") words))
    (nat_le (number_or 1000 (codes "h0") words) (number_or 1000000 (codes "hmax") words)) right.1 in
    let three = and_parts (suits (mode_of words) words && is_some (value_of (codes "stop") words)) (nat_le (number_or 1 (codes "hmin") words) (number_or 1000 (codes "h0") words)) four.0 in
    let two = and_parts (suits (mode_of words) words) (is_some (value_of (codes "stop") words)) three.0 in
    let size = fits (codes "size") words 0 15 0 (λ value a. size_fits value a) right.0 (λ none. (omega arith, omega arith)) in
    let stop = fits (codes "stop") words 1 1000000000000000 0 (λ value a. a) right.0 (λ none. absurd (given_stop (value_of (codes "stop") words) two.1 none)) in
    let ahead = fits (codes "ahead") words 0 4096 64 (λ value a. a) right.0 (λ none. (omega arith, omega arith)) in
    let hmin = fits (codes "hmin") words 1 1000000000000 1 (λ value a. a) right.0 (λ none. (omega arith, omega arith)) in
    let hmax = fits (codes "hmax") words 1 1000000000000 1000000 (λ value a. a) right.0 (λ none. (omega arith, omega arith)) in
    let tol = fits (codes "tol") words 1 1000000000000000 1000000 (λ value a. a) right.0 (λ none. (omega arith, omega arith)) in
    let ltol = fits (codes "ltol") words 1 1000000000000000 1000000000 (λ value a. a) right.0 (λ none. (omega arith, omega arith)) in
    let xres = fits (codes "xres") words 1 1000000000 1 (λ value a. a) right.0 (λ none. (omega arith, omega arith)) in
    let schedule = schedule_fits words right.0 in
    let low = three.1 in
    let high = four.1 in
    record {
      size_most = size.1;
      stop_least = stop.0;
      stop_most = stop.1;
      ahead_most = ahead.1;
      hmin_least = hmin.0;
      h0_least = grind (arith, nat_tests);
      h0_most = grind (arith, nat_tests);
      hmax_most = hmax.1;
      tol_least = tol.0;
      tol_most = tol.1;
      ltol_least = ltol.0;
      ltol_most = ltol.1;
      xres_least = xres.0;
      xres_most = xres.1;
      schedule_most = schedule.0;
      schedule_steps = schedule.1;
    }

pub ruleset range_rules = (in_range)
