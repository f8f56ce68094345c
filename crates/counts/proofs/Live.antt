-- What the device's own acts keep, while no restart waits.
use Rattle.std.proofs.Common.{◌≡◌, ℕ, ◌+◌, ◌%◌, ◌^◌, ◌≤◌, Bool, true, false, cond, not, ◌&&◌, eqb, ◌⊎◌, List, [], ◌∷◌, length, sym, refl, inl, inr, arith, eqb-true}
use borrow.Author.Tests.{clash}
use Rattle.tca.specs.Fields.{dpastat, dpsstat, exfak}
use Rattle.line.specs.declared.command.Command.TheVariants.{Poll}
use Rattle.line.specs.State.{Device, Choice, at}
use Rattle.line.specs.Rules.{act, ran, posts_event, posts_end, posts_expedited, byte_after}
use Rattle.line.proofs.Memory.{remake_length, remake_at}
use Rattle.procedures.specs.Leaves.{effects, Made}

abbrev pub one_if : Bool → ℕ
one_if true = 1
one_if false = 0

-- A device at a connected port: it has taken so many requests, works exactly while the port is active and it
-- has posted no end, and has posted as many statuses as were handed over and one more where the toggle is 1.
pub record Live (active : Bool) (y taken : ℕ) (last : List ℕ) (events expedited : ℕ) (d : Device) : Type 0 where
  pub sized : 256 ≤ length d.memory
  pub awake : d.waiting ≡ false
  pub saw : d.seen ≡ y
  pub took : d.taken ≡ taken
  pub newest : d.last ≡ last
  pub works : d.working ≡ (active && eqb (at d dpsstat) 0)
  pub posted : d.events ≡ (events + one_if (eqb (at d dpastat) 1)) % 2 ^ 32
  pub posted_expedited : d.expedited ≡ (expedited + one_if (eqb (at d exfak) 1)) % 2 ^ 32

-- one family's count and toggle
count_keeps : (x v n h : ℕ) (z w o : Bool) → eqb x 0 ≡ z → eqb v 0 ≡ w → eqb v 1 ≡ o → n ≡ (h + one_if (eqb x 1)) % 2 ^ 32
    → cond ((z && not w) && o) ((n + 1) % 2 ^ 32) n ≡ (h + one_if (eqb (cond (z && not w) v x) 1)) % 2 ^ 32
count_keeps x v n h true true o ez ew eo e = e
count_keeps x v n h true false true ez ew eo e = let k : n ≡ (h + 0) % 2 ^ 32 = rw (eqb-true x 0 ez) at e in rw eo (omega arith)
count_keeps x v n h true false false ez ew eo e = let k : n ≡ (h + 0) % 2 ^ 32 = rw (eqb-true x 0 ez) at e in rw eo (omega arith)
count_keeps x v n h false w o ez ew eo e = e

-- a device works while it has posted no end
works_keeps : (active w : Bool) (x v : ℕ) (z o : Bool) → eqb x 0 ≡ z → eqb v 0 ≡ o → w ≡ (active && eqb x 0)
    → cond (w && (z && not o)) false w ≡ (active && eqb (cond (w && (z && not o)) v x) 0)
works_keeps false w x v z o ez eo e = rw e refl
works_keeps true w x v true true ez eo e = rw (e, ez) (sym ez)
works_keeps true w x v true false ez eo e = rw (e, ez) (sym eo)
works_keeps true w x v false o ez eo e = rw (e, ez) (sym ez)

module _ (active : Bool) (y taken : ℕ) (last : List ℕ) (events expedited : ℕ) where
  abbrev Lives : Device → Type 0
  Lives d = Live active y taken last events expedited d

  ran_live : (ch : Choice) (d : Device) → Lives d → Lives (ran ch d)
  ran_live ch d i =
      let a = i.awake in
      let f = byte_after (posts_event ch d) (posts_end ch d) (posts_expedited ch d) ch d in
      let at_a : at (ran ch d) dpastat ≡ cond (posts_event ch d) ch.to_dpastat (at d dpastat) = remake_at f d.memory dpastat (omega (arith, i.sized)) in
      let at_s : at (ran ch d) dpsstat ≡ cond (posts_end ch d) ch.to_dpsstat (at d dpsstat) = remake_at f d.memory dpsstat (omega (arith, i.sized)) in
      let at_e : at (ran ch d) exfak ≡ cond (posts_expedited ch d) ch.to_exfak (at d exfak) = remake_at f d.memory exfak (omega (arith, i.sized)) in
      record {
        sized = rw (remake_length f d.memory) i.sized;
        awake = a;
        saw = i.saw;
        took = i.took;
        newest = i.newest;
        works = rw (at_s, a) (works_keeps active d.working (at d dpsstat) ch.to_dpsstat (eqb (at d dpsstat) 0) (eqb ch.to_dpsstat 0) refl refl i.works);
        posted = rw (at_a, a) (count_keeps (at d dpastat) ch.to_dpastat d.events events (eqb (at d dpastat) 0) (eqb ch.to_dpastat 0) (eqb ch.to_dpastat 1) refl refl refl i.posted);
        posted_expedited = rw (at_e, a) (count_keeps (at d exfak) ch.to_exfak d.expedited expedited (eqb (at d exfak) 0) (eqb ch.to_exfak 0) (eqb ch.to_exfak 1) refl refl refl i.posted_expedited);
      }

  -- a restart waits after it, or all is kept
  act_live : (ch : Choice) (d : Device) (r : Bool) → ch.restarts ≡ r → Lives d → ((act ch d).waiting ≡ true) ⊎ Lives (act ch d)
  unfolding act
  act_live ch d true e i = inl (rw e refl)
  act_live ch d false e i = inr (rw e (ran_live ch d i))

  act_waits : (ch : Choice) (d : Device) (r : Bool) → ch.restarts ≡ r → d.waiting ≡ true → (act ch d).waiting ≡ true
  unfolding act
  act_waits ch d true e w = rw e refl
  act_waits ch d false e w = rw e w

  acts_live : (cs : List Choice) (d : Device) → Lives d → ((effects Poll cs d).waiting ≡ true) ⊎ Lives (effects Poll cs d)
  acts_live [] d i = inr i
  acts_live (ch ∷ cs) d i = elim (acts_live cs d i) [ inl w ↦ inl (act_waits ch (effects Poll cs d) ch.restarts refl w) | inr l ↦ act_live ch (effects Poll cs d) ch.restarts refl l ]

  -- awake after a poll, so no restart came in any of its sendings
  pub poll_live : (d e : Device) → Lives d → Made Poll d e → e.waiting ≡ false → Lives e
  poll_live d e i m a =
      let q = m.1 in
      elim (acts_live m.0 d i) [ inl w ↦ (let z : false ≡ true = cc in absurd (clash z)) | inr l ↦ rw q l ]
