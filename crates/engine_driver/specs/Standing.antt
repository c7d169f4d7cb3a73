-- Where a run by two threads stands behind some moves: what was told of it, and what the engine's seat has counted.
use Rattle.std.specs.Prelude.{◌≡◌, ◌≢◌, ℕ, ◌+◌, ◌≤◌, ◌<◌, ◌^◌, List, [], ◌++◌, length, min, refl}
use Rattle.std.proofs.Common.{sym, ap, ◌∙◌, subst, append_assoc, arith}
use Rattle.std.proofs.lemmas.List.{append-nil}
use Rattle.step_data.specs.declared.event.Event.{Event}
use Rattle.lockstep_model.specs.declared.moves.Moved.{Moved}
use Rattle.lockstep_model.specs.declared.moves.Moved.TheVariants as says
use Rattle.lockstep_model.specs.Walk as w
use Rattle.lockstep_model.specs.Walk.{Walk, Fits, EndsAll, Awaits, Spends, OwnsOne, Begins, begins_said, may_begin, here, nothing, moved}
use Rattle.lockstep_model.specs.Works.{Work, events_of, attempts_in, renewals_in}
use Rattle.engine_replies.specs.declared.reply.Reply.{Reply}
use Rattle.engine_replies.specs.declared.reply.Reply.TheVariants as replies
use Rattle.engine_replies.specs.Replying.{reply_by}
use Rattle.runahead_worker.specs.declared.seats.LineSeat.{LineSeat}
use Rattle.runahead_worker.specs.Seats.{called}
use Rattle.engine_driver.specs.Said.{ReplyFor, Rises, RisesBy, rises_said, seat_said}

-- a front of the whole was taken in between two states of a sink, and the rest is to come
pub record Told {A : Type 0} (gained : A → A → List Event → Type 0) (a b : A) (whole rest : List Event) : Type 0 where
  pub front : List Event
  pub taken : gained a b front
  pub whole_is : front ++ rest ≡ whole

module _ {A : Type 0} where
  pub told_first : (gained : A → A → List Event → Type 0) (a : A) (whole : List Event) → ((a : A) → gained a a []) → Told gained a a whole whole
  told_first gained a whole nothing = record { front = []; taken = nothing a; whole_is = refl }

  pub told_on : (gained : A → A → List Event → Type 0) (a b c : A) (whole mid rest events : List Event) → ((a b c : A) (xs ys : List Event) → gained a b xs → gained b c ys → gained a c (xs ++ ys)) → Told gained a b whole mid → gained b c events → events ++ rest ≡ mid → Told gained a c whole rest
  told_on gained a b c whole mid rest events joins t more e =
      record {
        front = t.front ++ events;
        taken = joins a b c t.front events t.taken more;
        whole_is = append_assoc t.front events rest ∙ ap (λ (xs : List Event). t.front ++ xs) e ∙ t.whole_is;
      }

  pub told_all : (gained : A → A → List Event → Type 0) (a b : A) (whole rest : List Event) → Told gained a b whole rest → rest ≡ [] → gained a b whole
  told_all gained a b whole rest t none =
      let e : t.front ≡ whole = sym (append-nil t.front) ∙ ap (λ (xs : List Event). t.front ++ xs) (sym none) ∙ t.whole_is in
      subst (λ (xs : List Event). gained a b xs) e t.taken

  pub told_stops : (gained stopped : A → A → List Event → Type 0) (a b c : A) (whole mid : List Event) → ((a b c : A) (xs ys : List Event) → gained a b xs → stopped b c ys → stopped a c (xs ++ ys)) → Told gained a b whole mid → stopped b c mid → stopped a c whole
  told_stops gained stopped a b c whole mid stops t s =
      subst (λ (xs : List Event). stopped a c xs) t.whole_is (stops a b c t.front mid t.taken s)

-- what was found or made so far and what is left are together the attempts that there were at first; one that was found and isn't
-- used yet counts twice. A look that answered Nothing is an own attempt, made or still to be made
pub record Counted {J : Type 0} (first now : Walk) (reply : w.Reply) (seat : LineSeat J) : Type 0 where
  pub missed : seat.missed ≡ now.own + nothing reply
  pub spent : seat.reused + now.own + attempts_in now.works ≡ attempts_in first.works + here reply
  pub least : min (renewals_in first.works) 18446744073709551615 ≤ seat.begins + renewals_in now.works
  pub most : seat.begins + renewals_in now.works + may_begin now.awaited ≤ renewals_in first.works + now.own

-- nothing is counted yet
pub record IsNewSeat {J : Type 0} (seat : LineSeat J) : Type 0 where
  pub begins : seat.begins ≡ 0
  pub reused : seat.reused ≡ 0
  pub missed : seat.missed ≡ 0

-- the counts of a whole run: own attempts are the looks that answered Nothing, with those that answered Here they are all; and
-- there is a begin for each work that renews, as far as the number goes, and at most one more for each own attempt
pub record CountsAll {J : Type 0} (works : List Work) (own : ℕ) (seat : LineSeat J) : Type 0 where
  pub own_is : seat.missed ≡ own
  pub all_are : seat.reused + seat.missed ≡ attempts_in works
  pub begins_least : min (renewals_in works) 18446744073709551615 ≤ seat.begins
  pub begins_most : seat.begins ≤ renewals_in works + seat.missed

here_most : (r : w.Reply) → here r ≤ 1
here_most w.NoReply = omega arith
here_most (w.Here a) = omega arith
here_most w.Nothing = omega arith
here_most (w.Consumed b) = omega arith

nothing_most : (r : w.Reply) → nothing r ≤ 1
nothing_most w.NoReply = omega arith
nothing_most (w.Here a) = omega arith
nothing_most w.Nothing = omega arith
nothing_most (w.Consumed b) = omega arith

module _ {J : Type 0} where
  pub counted_first : (y : Walk) (s : LineSeat J) → y.own ≡ 0 → y.awaited ≡ w.Ready → IsNewSeat s → Counted y y w.NoReply s
  counted_first y s own ready new =
      let begins = new.begins in
      let reused = new.reused in
      let missed = new.missed in
      let none : may_begin y.awaited ≡ 0 = ap may_begin ready in
      record { missed = omega arith; spent = omega arith; least = omega arith; most = omega arith }

  -- the numbers behind one more move
  pub counted_on : (total : ℕ) (first old new : Walk) (reply next : w.Reply) (k : ℕ) (s s' : LineSeat J) → attempts_in first.works ≡ total → total < 2 ^ 62 → Counted first old reply s → Spends old new reply → OwnsOne old new reply → renewals_in old.works ≤ k + renewals_in new.works → k + renewals_in new.works + may_begin new.awaited ≤ renewals_in old.works + may_begin old.awaited + nothing reply → Rises k (here next) (nothing next) s s' → Counted first new next s'
  counted_on total first old new reply next k s s' is few c spends owns least most rises =
      let missed = c.missed in
      let spent = c.spent in
      let low = c.least in
      let high = c.most in
      let here_few = here_most reply in
      let nothing_few = nothing_most reply in
      let spent' : new.own + attempts_in new.works + here reply ≡ old.own + attempts_in old.works = spends (omega arith) in
      let own' : new.own ≡ old.own + nothing reply = owns (omega arith) in
      let up = rises.begins_up in
      let down = rises.begins_most in
      let reused' : s'.reused ≡ s.reused + here next = rises.reused_is (omega arith) in
      let missed' : s'.missed ≡ s.missed + nothing next = rises.missed_is (omega arith) in
      record { missed = omega arith; spent = omega arith; least = omega arith; most = omega arith }

  pub counts_closed : (works : List Work) (own : ℕ) (s : LineSeat J) → CountsAll works own s → CountsAll works own (called s)
  counts_closed works own s c = record { own_is = c.own_is; all_are = c.all_are; begins_least = c.begins_least; begins_most = c.begins_most }

  -- at the end nothing is left and nothing is asked
  pub counted_all : (first now : Walk) (reply : w.Reply) (s : LineSeat J) → Counted first now reply s → now.works ≡ [] → reply ≡ w.NoReply → CountsAll first.works now.own s
  counted_all first now reply s c none quiet =
      let attempts : attempts_in now.works ≡ 0 = ap attempts_in none in
      let renewals : renewals_in now.works ≡ 0 = ap renewals_in none in
      let no_here : here reply ≡ 0 = ap here quiet in
      let no_nothing : nothing reply ≡ 0 = ap nothing quiet in
      let missed = c.missed in
      let spent = c.spent in
      let low = c.least in
      let high = c.most in
      record { own_is = omega arith; all_are = omega arith; begins_least = omega arith; begins_most = omega arith }
