-- A scan goes there and back, and so do its numbers.
use Prim.Native.Nat.{ℕ, ◌%◌, ◌≤◌}
use native.Mathlib.Omega.{arith}
use native.Mathlib.Decide.{ℕ_discrete}
use mathlib.Core.Path.{◌≡◌, refl}
use mathlib.Core.Logic.{by_cases}
use mathlib.Core.Bool.{Bool, true, false}
use lib.Dec.{leb, eqb}
use borrow.Author.Tests.{eqb-true, leb-true}
use Rattle.base.specs.If.{when◌then◌else◌}
use Rattle.base.proofs.Choice.{case, both, and_yes}
use Rattle.base.specs.Tab.{columns_of}
use Rattle.base.specs.declared.InTab.{InTab}
use Rattle.base.specs.declared.InTab.TheVariants.{Outside, Past1, Past2, Past3}
use Rattle.base.specs.declared.Verdict.{Verdict}
use Rattle.base.specs.declared.Verdict.TheVariants.{Fine, Unfinished, Wrong}
use Rattle.events.specs.Words.{in_tab}
use Rattle.crossing.specs.declared.scans.Heard.{Heard}
use Rattle.crossing.specs.Scans.{verdict_listed, verdict_in, verdict_out, heard_listed, flags_out, scan_listed, scan_in, scan_out}
use Rattle.face_theorems.specs.Statement.{ScanComesBack, NumbersComeBack}

-- ---- there and back

asks_back : (a i : Bool) → eqb (flags_out a i % 2) 1 ≡ a
unfolding when◌then◌else◌
asks_back true true = refl
asks_back true false = refl
asks_back false true = refl
asks_back false false = refl

interrupt_back : (a i : Bool) → leb 2 (flags_out a i) ≡ i
unfolding when◌then◌else◌
interrupt_back true true = refl
interrupt_back true false = refl
interrupt_back false true = refl
interrupt_back false false = refl

flags_listed : (a i : Bool) → leb (flags_out a i) 3 ≡ true
unfolding when◌then◌else◌
flags_listed true true = refl
flags_listed true false = refl
flags_listed false true = refl
flags_listed false false = refl

tab_back : (t : InTab) → in_tab (columns_of t) ≡ t
unfolding when◌then◌else◌
tab_back Outside = refl
tab_back Past1 = refl
tab_back Past2 = refl
tab_back Past3 = refl

tab_listed : (t : InTab) → leb (columns_of t) 3 ≡ true
tab_listed Outside = refl
tab_listed Past1 = refl
tab_listed Past2 = refl
tab_listed Past3 = refl

pub verdict_back : (v : Verdict) → verdict_in (verdict_out v).verdict (verdict_out v).number (verdict_out v).offset ≡ v
unfolding when◌then◌else◌
verdict_back Fine = refl
verdict_back (Unfinished n) = refl
verdict_back (Wrong n offset) = refl

pub verdict_listed_lem : (v : Verdict) → verdict_listed (verdict_out v).verdict ≡ true
verdict_listed_lem Fine = refl
verdict_listed_lem (Unfinished n) = refl
verdict_listed_lem (Wrong n offset) = refl

heard_listed_lem : (v : Verdict) → heard_listed (verdict_out v).verdict (verdict_out v).number (verdict_out v).offset ≡ true
unfolding when◌then◌else◌
heard_listed_lem Fine = refl
heard_listed_lem (Unfinished n) = refl
heard_listed_lem (Wrong n offset) = refl

pub a_scan_comes_back : ScanComesBack
unfolding scan_listed scan_in scan_out
a_scan_comes_back s =
    let job = s.tokenizer.job in
    record {
      listed = and_yes _ _ (flags_listed job.asks job.interrupt) (and_yes _ _ (tab_listed s.lines.tab) (heard_listed_lem s.tokenizer.heard));
      same = simp (asks_back, interrupt_back, tab_back, verdict_back);
    }

-- ---- back and there

flags_out_lem : (f : ℕ) → f ≤ 3 → flags_out (eqb (f % 2) 1) (leb 2 f) ≡ f
unfolding when◌then◌else◌
flags_out_lem f h =
    by_cases (ℕ_discrete f 0) (λ (e : f ≡ 0). rw e)
    (λ n0. by_cases (ℕ_discrete f 1) (λ (e : f ≡ 1). rw e)
    (λ n1. by_cases (ℕ_discrete f 2) (λ (e : f ≡ 2). rw e)
    (λ n2. let e : f ≡ 3 = omega (arith, n0, n1, n2) in rw e)))

tab_out : (n : ℕ) → n ≤ 3 → columns_of (in_tab n) ≡ n
unfolding when◌then◌else◌
tab_out f h =
    by_cases (ℕ_discrete f 0) (λ (e : f ≡ 0). rw e)
    (λ n0. by_cases (ℕ_discrete f 1) (λ (e : f ≡ 1). rw e)
    (λ n1. by_cases (ℕ_discrete f 2) (λ (e : f ≡ 2). rw e)
    (λ n2. let e : f ≡ 3 = omega (arith, n0, n1, n2) in rw e)))

abbrev heard : ℕ → ℕ → ℕ → Heard
heard v n offset = record { offset = offset; number = n; verdict = v }

verdict_out_lem : (v n offset : ℕ) → heard_listed v n offset ≡ true → verdict_out (verdict_in v n offset) ≡ heard v n offset
unfolding when◌then◌else◌
verdict_out_lem v n offset h =
    case _ (eqb v 0)
    (λ e.
    let b = both (eqb n 0) (eqb offset 0) (rw e at h) in
    let p : v ≡ 0 = eqb-true v 0 e in
    let q : n ≡ 0 = eqb-true n 0 b.0 in
    let r : offset ≡ 0 = eqb-true offset 0 b.1 in
    rw (p, q, r))
    (λ ne. case _ (eqb v 1)
    (λ e.
    let r : offset ≡ 0 = eqb-true offset 0 (rw (ne, e) at h) in
    let p : v ≡ 1 = eqb-true v 1 e in
    rw (p, r))
    (λ ne'.
    let p : v ≡ 2 = eqb-true v 2 (rw (ne, ne') at h) in
    rw p))

pub numbers_come_back : NumbersComeBack
unfolding scan_listed scan_in scan_out
numbers_come_back c h =
    let a = both _ _ h in
    let b = both _ _ a.1 in
    let f = flags_out_lem c.flags (leb-true c.flags 3 a.0) in
    let t = tab_out c.tab (leb-true c.tab 3 b.0) in
    let v = verdict_out_lem c.heard c.heard_number c.heard_offset b.1 in
    rw (f, t, v)
