-- Images cut at the largest size, and images whose bytes are known.
use Rattle.std.proofs.Common.{◌≡◌, ℕ, ◌+◌, ◌-◌, ◌≤◌, List, [], ◌∷◌, ◌++◌, length, take, Some, sym, ap, ◌∙◌, arith, append-nil}
use Rattle.std.proofs.lemmas.List.{length-take, take-append-le, take_all}
use Rattle.std.proofs.Math.Seq.{take-append-add}
use Rattle.cd_read.specs.Ends.{MayBeImage, MayBeImageAtEnd}
use Rattle.cd_sector.specs.Image.{image_limit}

-- a cut of the bytes read and the bytes left
cut-at : (limit : ℕ) (read rest : List ℕ) → length read ≤ limit
    → take limit (read ++ rest) ≡ read ++ take (limit - length read) rest
cut-at limit read rest within =
    let whole : limit ≡ length read + (limit - length read) = omega (arith, within) in
    ap (λ n. take n (read ++ rest)) whole ∙ take-append-add read rest (limit - length read)

-- the cut image may be the one that was being read
pub Fits-within : (read rest : List ℕ) → length read ≤ image_limit
    → MayBeImage read (take image_limit (read ++ rest))
Fits-within read rest within = record {
  within = omega (arith, length-take image_limit (read ++ rest));
  begins = (
    take (image_limit - length read) rest,
    cut-at image_limit read rest within
        ∙ ap (λ front. front ++ take (image_limit - length read) rest)
        (sym (take_all image_limit read within)),
  );
}

pub Fits-beyond : (read rest : List ℕ) → image_limit ≤ length read
    → MayBeImage read (take image_limit (read ++ rest))
Fits-beyond read rest beyond = record {
  within = omega (arith, length-take image_limit (read ++ rest));
  begins =
      ([], take-append-le image_limit read rest beyond ∙ sym (append-nil (take image_limit read)));
}

pub MayBeImageAtEnd-within : (read rest : List ℕ) → length read ≤ image_limit
    → MayBeImageAtEnd (Some rest) read (take image_limit (read ++ rest))
MayBeImageAtEnd-within read [] within =
    ap (take image_limit) (append-nil read) ∙ take_all image_limit read within
MayBeImageAtEnd-within read (x ∷ xs) within = Fits-within read (x ∷ xs) within

-- the bytes read are a front of all bytes
pub read-front : (count : ℕ) (all read rest : List ℕ) → all ≡ read ++ rest → length read ≡ count
    → read ≡ take count all
read-front count all read rest is size =
    sym (ap (take count) is ∙ take-append-le count read rest (omega (arith, size))
    ∙ take_all count read (omega (arith, size)))

-- if no bytes are left, all bytes were read
pub read-whole : (all read rest : List ℕ) → all ≡ read ++ rest → rest ≡ [] → all ≡ read
read-whole all read rest is none = is ∙ ap (λ r. read ++ r) none ∙ append-nil read
