-- A single scan, run a part at a time: wherever it is paused, it comes to what the scan run by itself comes to, and so do its events.
use Prim.Native.Nat.{ℕ, zero, suc, ◌+◌, ◌*◌, ◌≤◌}
use native.Mathlib.Omega.{arith}
use native.Mathlib.Nat.{add_comm}
use mathlib.Core.Path.{◌≡◌, refl, sym, ap, ap₂, ◌∙◌}
use mathlib.Core.Bool.{true, false}
use mathlib.Core.List.{List, [], ◌∷◌, ◌++◌, append_assoc, append-nil}
use lib.ListN.{length, drop, length-append}
use lib.Seq.{take_at}
use lib.Dec.{eqb}
use borrow.Author.Tests.{lt-ltb, eq-eqb}
use Rattle.base.specs.If.{when◌then◌else◌}
use Rattle.base.proofs.Choice.{if_yes, case}
use Rattle.base.specs.State.{asking, rests}
use Rattle.base.specs.declared.Verdict.{Verdict}
use Rattle.events.specs.declared.Event.{Event}
use Rattle.events.specs.Span.{front_of}
use Rattle.events.specs.Words.{width, encode, written, events_in}
use Rattle.events.proofs.Laws.{encode_long, encode_append, written_is, encoded_read}
use Rattle.tokenizer.specs.Ranges.{verdict_in_range}
use Rattle.scan.specs.declared.Scan.{Scan}
use Rattle.scan.specs.Scan.{step_bound, step_scan, run_scan, run_events}
use Rattle.scan.specs.Call.{given_scan}
use Rattle.scan.specs.Alone.{told_scan, run_alone, events_alone}
use Rattle.scan.proofs.Pausing.{run_add, events_add}
use Rattle.scan.proofs.Runs.{run_rest, events_rest}
use Rattle.scan_theorems.proofs.Tests.{clash}
use Rattle.scan_theorems.proofs.Scans.{Within, within_step, step_counted, run_ends, within_given}

-- ---- what a run counts

-- its steps: no more than it may, and all of them where it goes on
pub record Counted (page : List ℕ) (k : ℕ) (s : Scan) : Type 0 where
  pub least : s.steps ≤ (run_scan page k s).steps
  pub most : (run_scan page k s).steps ≤ s.steps + k
  pub all : rests (run_scan page k s).tokenizer.state ≡ false → (run_scan page k s).steps ≡ s.steps + k

pub counted : (page : List ℕ) (k : ℕ) (s : Scan) → Within page s → Counted page k s
unfolding run_scan when◌then◌else◌
counted page zero s w = record { least = omega arith; most = omega arith; all = λ e. omega arith }
counted page (suc k) s w =
    case _ (rests s.tokenizer.state)
    (λ e. record { least = rw e (omega arith); most = rw e (omega arith); all = rw e (λ f. clash _ e f) })
    (λ e.
    let c = counted page k (step_scan page s) (within_step page s w e) in
    let o = step_counted page s w e in
    record { least = rw e (omega (arith, c.least)); most = rw e (omega (arith, c.most)); all = rw e (λ f. omega (arith, c.all f)) })

-- ---- a run that is long enough comes to rest, and then it does not matter how long it is

module _ (page : List ℕ) (b : ℕ) (s : Scan) (w : Within page s) (eb : step_bound s.tokenizer.job ≡ b) where
  comes_to_rest : (k : ℕ) → b ≤ s.steps + k → rests (run_scan page k s).tokenizer.state ≡ true
  comes_to_rest k h = run_ends page k s w (omega (arith, w.paid))

  -- a run from where it rests adds nothing
  adds_none : (j k : ℕ) → b ≤ s.steps + j → (run_scan page (j + k) s ≡ run_scan page j s) × (run_events page (j + k) s ≡ run_events page j s)
  adds_none j k h =
      let r = comes_to_rest j h in (
        run_add page k j s ∙ run_rest page (run_scan page j s) k r,
        events_add page k j s ∙ ap (λ (l : List Event). run_events page j s ++ l) (events_rest page (run_scan page j s) k r) ∙ append-nil (run_events page j s),
      )

  pub settles : (j k : ℕ) → b ≤ s.steps + j → b ≤ s.steps + k → (run_scan page j s ≡ run_scan page k s) × (run_events page j s ≡ run_events page k s)
  settles j k hj hk =
      let x = adds_none j k hj in
      let y = adds_none k j hk in (
        sym x.0 ∙ ap (λ (n : ℕ). run_scan page n s) (add_comm j k) ∙ y.0,
        sym x.1 ∙ ap (λ (n : ℕ). run_events page n s) (add_comm j k) ∙ y.1,
      )

-- ---- one verdict more

module _ (page : List ℕ) (b : ℕ) (v : Verdict) where
  alone_snoc : (vs : List Verdict) (s : Scan) → run_alone page b (vs ++ (v ∷ [])) s ≡ run_scan page b (told_scan (run_alone page b vs s) v)
  unfolding run_alone
  alone_snoc [] s = refl
  alone_snoc (u ∷ vs) s = alone_snoc vs (told_scan (run_scan page b s) u)

  events_snoc : (vs : List Verdict) (s : Scan) → events_alone page b (vs ++ (v ∷ [])) s ≡ events_alone page b vs s ++ run_events page b (told_scan (run_alone page b vs s) v)
  unfolding run_alone events_alone
  events_snoc [] s = refl
  events_snoc (u ∷ vs) s =
      ap (λ (l : List Event). run_events page b s ++ l) (events_snoc vs (told_scan (run_scan page b s) u)) ∙ sym (append_assoc (run_events page b s) _ _)

-- ---- the scan s with its events is on the way of the scan run by itself from s₀, with the verdicts vs

module _ (page : List ℕ) (b : ℕ) (s₀ : Scan) where
  pub record Reached (vs : List Verdict) (s : Scan) (es : List Event) : Type 0 where
    pub comes : (k : ℕ) → b ≤ s.steps + k → (run_scan page k s ≡ run_alone page b vs s₀) × (es ++ run_events page k s ≡ events_alone page b vs s₀)

  pub reached_first : Within page s₀ → step_bound s₀.tokenizer.job ≡ b → Reached [] s₀ []
  unfolding run_alone events_alone
  reached_first w e = record { comes = λ k h. settles page b s₀ w e k b h (omega arith) }

  pub reached_run : (vs : List Verdict) (s : Scan) (es : List Event) → Within page s → (n : ℕ) → Reached vs s es → Reached vs (run_scan page n s) (es ++ run_events page n s)
  reached_run vs s es w n r =
      record {
        comes = λ k h.
            let c = counted page n s w in
            let x = r.comes (n + k) (omega (arith, c.most)) in (
              sym (run_add page k n s) ∙ x.0,
              append_assoc es _ _ ∙ ap (λ (l : List Event). es ++ l) (sym (events_add page k n s)) ∙ x.1,
            );
      }

  -- one that rests is where the scan run by itself is
  pub reached_rest : (vs : List Verdict) (s : Scan) (es : List Event) → rests s.tokenizer.state ≡ true → Reached vs s es
      → (s ≡ run_alone page b vs s₀) × (es ≡ events_alone page b vs s₀)
  reached_rest vs s es e r =
      let x = r.comes b (omega arith) in
      (sym (run_rest page s b e) ∙ x.0, sym (ap (λ (l : List Event). es ++ l) (events_rest page s b e) ∙ append-nil es) ∙ x.1)

  pub reached_given : (vs : List Verdict) (s : Scan) (es : List Event) (v : Verdict) → Within page s → step_bound s.tokenizer.job ≡ b → s.tokenizer.state ≡ asking → verdict_in_range v ≡ true
      → Reached vs s es → Reached (vs ++ (v ∷ [])) (given_scan s v) es
  unfolding given_scan
  reached_given vs s es v w eb ea hv r =
      let e = reached_rest vs s es (lt-ltb s.tokenizer.state 32 (omega (arith, ea))) r in
      let t : told_scan (run_alone page b vs s₀) v ≡ given_scan s v =
      ap (λ (x : Scan). told_scan x v) (sym e.0) ∙ sym (if_yes Scan (eqb s.tokenizer.state asking) (given_scan s v) (given_scan s v) s (eq-eqb s.tokenizer.state asking ea) refl) in
      record {
        comes = λ k h.
            let x = settles page b (given_scan s v) (within_given page s v w ea hv) eb k b h (omega arith) in (
              x.0 ∙ sym (alone_snoc page b v vs s₀ ∙ ap (run_scan page b) t),
              ap₂ (λ (l m : List Event). l ++ m) e.1 (x.1 ∙ ap (run_events page b) (sym t)) ∙ sym (events_snoc page b v vs s₀),
            );
      }

-- ---- its events in the words that it is lent

-- what stands in front are these events: k of them are counted
pub record Stand (k : ℕ) (words : List ℕ) (es : List Event) : Type 0 where
  pub count : k ≡ length es
  pub hold : front_of words k ≡ encode es

-- more events are written behind them
pub stand_more : (k : ℕ) (words : List ℕ) (es more : List Event) → (k + length more) * width ≤ length words → Stand k words es → Stand (k + length more) (written words k more) (es ++ more)
stand_more k words es more fits h =
    let n : k + length more ≡ length (es ++ more) = omega (arith, h.count, length-append es more) in
    let rest = drop ((k + length more) * width) words in
    let e : written words k more ≡ encode (es ++ more) ++ rest =
    written_is words k more fits ∙ ap (λ (l : List ℕ). l ++ encode more ++ rest) h.hold ∙ ap (λ (l : List ℕ). l ++ rest) (sym (encode_append es more)) in
    record {
      count = n;
      hold = ap (λ (l : List ℕ). front_of l (k + length more)) e ∙ take_at (encode (es ++ more)) rest ((k + length more) * width) (omega (arith, encode_long (es ++ more), n));
    }

-- they are read again
pub stand_read : (k : ℕ) (words : List ℕ) (es : List Event) → Stand k words es → events_in (front_of words k) 0 k ≡ es
stand_read k words es h =
    ap₂ (λ (l : List ℕ) (n : ℕ). events_in l 0 n) (h.hold ∙ sym (append-nil (encode es))) h.count ∙ encoded_read es []
