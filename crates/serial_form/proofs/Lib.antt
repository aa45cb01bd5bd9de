-- What reading comes to, the theorems over the forms, then what each return of the code is in the definition.
pub mod Copying
pub mod Reading
pub mod RoundTrip
pub mod Answers
pub mod Examples
