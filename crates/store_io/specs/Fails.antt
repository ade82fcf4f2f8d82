-- Calls of a store in memory that are to fail.
use Rattle.std.specs.Prelude.{◌≡◌, ℕ, zero, suc, ◌-◌, Bool, ◌&&◌, ◌==◌, if◌then◌else◌, false, List, map, Option, Some, None, refl}
use Rattle.std.specs.Coded.{Coded, code_by, coded×, coded_ℕ, coded_list}
use Rattle.std.specs.List.{list_any}
use Rattle.std.specs.Str.{bytes_eq}
use Rattle.store_io.specs.declared.call_kind.CallKind.{CallKind}
use Rattle.store_io.specs.declared.call_kind.CallKind.TheVariants.{OpenRead, Read, OpenWrite, Write, Close}

abbrev pub kind_number : CallKind → ℕ
kind_number OpenRead = 0
kind_number Read = 1
kind_number OpenWrite = 2
kind_number Write = 3
kind_number Close = 4

-- an entry: the nth call of this kind on this name fails; 0 where that call has been
pub record Fail : Type 0 where
  pub kind : CallKind
  pub name : List ℕ
  pub nth : ℕ

-- whether an entry counts calls of this kind on this name
abbrev pub is_for : CallKind → List ℕ → Fail → Bool
is_for kind name f = (kind_number f.kind == kind_number kind) && bytes_eq f.name name

-- whether such a call, made now, is the one that an entry lets fail
abbrev pub is_due : CallKind → List ℕ → Fail → Bool
is_due kind name f = is_for kind name f && (f.nth == 1)

-- an entry after such a call
abbrev pub counted : CallKind → List ℕ → Fail → Fail
counted kind name f = if is_for kind name f then record f { nth = f.nth - 1 } else f

-- whether a call, made now, fails by one of the entries; none counts where no file is open
abbrev pub falls_due : CallKind → Option (List ℕ) → List Fail → Bool
falls_due kind None fails = false
falls_due kind (Some name) fails = list_any (is_due kind name) fails

-- the entries after a call
abbrev pub after_call : CallKind → Option (List ℕ) → List Fail → List Fail
after_call kind None fails = fails
after_call kind (Some name) fails = map (counted kind name) fails

abbrev kind_at : ℕ → CallKind
kind_at zero = OpenRead
kind_at (suc zero) = Read
kind_at (suc (suc zero)) = OpenWrite
kind_at (suc (suc (suc zero))) = Write
kind_at (suc (suc (suc (suc n)))) = Close

pub kind_at-kind_number : (k : CallKind) → kind_at (kind_number k) ≡ k
kind_at-kind_number OpenRead = refl
kind_at-kind_number Read = refl
kind_at-kind_number OpenWrite = refl
kind_at-kind_number Write = refl
kind_at-kind_number Close = refl

abbrev kind_code : Coded CallKind
kind_code = code_by ℕ coded_ℕ kind_number kind_at kind_at-kind_number

abbrev pub fail_code : Coded Fail
fail_code = code_by (CallKind × (List ℕ × ℕ)) (coded× kind_code (coded× (coded_list coded_ℕ) coded_ℕ)) (λ f. (f.kind, (f.name, f.nth))) (λ p. record { kind = p.0; name = p.1.0; nth = p.1.1 }) (λ _. refl)
