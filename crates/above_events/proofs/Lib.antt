mod Narrowing
