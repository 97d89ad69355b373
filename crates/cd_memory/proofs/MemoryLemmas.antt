-- The answers of the host in memory, in terms of the existing files.
use Rattle.std.proofs.Common.{◌≡◌, ℕ, Bool, true, false, ◌||◌, List, [], ◌∷◌, Option, None, Some, Result, codes, if◌then◌else◌, get_or, is_some, slice_set, refl, sym, ap, ◌∙◌}
use Rattle.std.proofs.lemmas.Slice.Eq.{bytes_eq-Decides}
use Rattle.std.proofs.lemmas.List.Quantifiers.{position-Some}
use Rattle.std.specs.List.{position}
use Rattle.std.specs.Str.{bytes_eq}
use Rattle.cd_stream.specs.Stream.{Outgoing}
use Rattle.cd_stream.specs.declared.adapters.slice_source.SliceSource.{SliceSource}
use Rattle.cd_program.specs.Program.{TakesImage}
use Rattle.cd_host.specs.declared.host.OpenFault.{OpenFault}
use Rattle.cd_memory.specs.Files.{NamedFile, file_bytes, named_file, with_bytes, with_file}
use Rattle.cd_memory.specs.Memory.{Opens, files_of, input_of, memory_hosting}
use Rattle.cd_memory.specs.Whole.{environment, image_at}
use Rattle.cd_memory.specs.declared.memory.Memory.{Memory}

-- ---- the image with a name

module _ {O : Type 0} (gone : O → Outgoing) where
  pub TakesImage-opens : (name : List ℕ) (host host' : Memory)
      (answer : Result SliceSource OpenFault)
      → TakesImage (memory_hosting gone) name host answer host'
      → (host' ≡ host) × Opens (image_at (environment (files_of host) (input_of host)) name) answer
  TakesImage-opens name host host' answer takes = go (bytes_eq name (codes "-")) refl
    where
      go : (b : Bool) → bytes_eq name (codes "-") ≡ b
          → (host' ≡ host)
          × Opens (if b then Some (input_of host) else file_bytes (files_of host) name) answer
      go true is = takes.standard ((bytes_eq-Decides name (codes "-")).0 is)
      go false is =
          takes.file (λ same. let other = (bytes_eq-Decides name (codes "-")).1 same in cc)

-- ---- whether there is a file

pub absent-of : {A B : Type 0} (first : Option A) (second : Option B)
    → (is_some first || is_some second) ≡ false → first ≡ None
absent-of None second none = refl
absent-of (Some x) second none = cc

pub there-of : {A B : Type 0} (first : Option A) (second : Option B)
    → (is_some first || is_some second) ≡ true → is_some second ≡ false → (x : A) × (first ≡ Some x)
there-of None None some none = cc
there-of None (Some y) some none = cc
there-of (Some x) second some none = (x, refl)

-- ---- a file gets its bytes

pub with_bytes-set : (files : List NamedFile) (name bytes : List ℕ) (place : ℕ) (other new : NamedFile)
    → position (λ f. bytes_eq f.name name) files ≡ Some place
    → new ≡ named_file (get_or files place other).name bytes
    → slice_set files place new ≡ with_bytes files name bytes
with_bytes-set files name bytes place other new at made =
    let found = position-Some (λ f. bytes_eq f.name name) files place other at in
    let same : (get_or files place other).name ≡ name =
    (bytes_eq-Decides (get_or files place other).name name).0 found.1 in
    ap (slice_set files place) (made ∙ ap (λ n. named_file n bytes) same)
    ∙ ap (λ o. with_file files o (named_file name bytes)) (sym at)

-- the one file that was made gets its bytes

bytes_eq-same : (name : List ℕ) → bytes_eq name name ≡ true
bytes_eq-same name = (bytes_eq-Decides name name).1 refl

pub with_bytes-one : (name earlier bytes : List ℕ)
    → with_bytes (named_file name earlier ∷ []) name bytes ≡ named_file name bytes ∷ []
with_bytes-one name earlier bytes = go (bytes_eq name name) (bytes_eq-same name)
  where
    go : (b : Bool) → b ≡ true
        → with_file (named_file name earlier ∷ []) (position (λ f. b) (named_file name earlier ∷ []))
        (named_file name bytes)
        ≡ named_file name bytes ∷ []
    go true is = refl
    go false is = cc
